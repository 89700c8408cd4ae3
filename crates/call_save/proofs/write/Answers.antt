-- `call_save::write` meets its contract: the sections one behind another. Assumes nothing.
use Rattle.call_save.proofs.Writing.{written}
use Rattle.call_save.proofs.write.Goals as goal

pub returns : goal.returns
returns c =
    written _ c.requires.0 _ c.bytes_at.ensures c.words_at.ensures
    c.put_registers.ensures c.put_section.ensures c.put_section-2.ensures c.put_section-3.ensures
