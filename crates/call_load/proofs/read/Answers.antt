-- `call_load::read` meets its contract: the sections one by one. Assumes nothing.
use Rattle.part_image_audit.proofs.Laid.{laid_length}
use Rattle.call_load.proofs.Loading.{words_read, colours_read, bytes_read}
use borrow.Author.Rules.{rules}
use Rattle.call_load.proofs.read.Goals as goal

pub get_items-requires : goal.get_items-requires
get_items-requires c =
    let l = laid_length c.requires.0 in search rules

pub get_items-requires-2 : goal.get_items-requires-2
get_items-requires-2 c =
    let l = laid_length c.requires.0 in search rules

pub get_items-requires-3 : goal.get_items-requires-3
get_items-requires-3 c =
    let l = laid_length c.requires.0 in search rules

pub returns : goal.returns
returns c = (
  words_read c.requires.0 c.requires.1 c.words_at.ensures c.get_items-3.ensures,
  colours_read c.requires.0 c.requires.2 c.get_items.ensures,
  bytes_read c.requires.0 c.requires.3 c.bytes_at.ensures c.get_items-2.ensures,
)
