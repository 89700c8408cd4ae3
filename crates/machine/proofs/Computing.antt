-- All that the calls compute with, opened by one name.
--     the_machine          `unfolding the_machine` opens every definition below, for a proof that computes calls on a heap given whole
-- A definition that such a proof has to compute with belongs on this line, and on no other.
-- Assumes nothing.
use Rattle.machine.specs.Tests.{◌▷◌}
use Rattle.machine.specs.Block.{is_block, eight_words, with_eight, bit, with_bit, without_bit, references_from}
use Rattle.machine.specs.Colouring.{colour, colour_in, grey_white, grey_all, head_legal, greys_pass}
use Rattle.machine.specs.State.{ahead, state_from, state_in, holder_refusal, target_refusal, may_be_black, new_colour}
use Rattle.machine.specs.Entry.{numbers_fit, lengths_fit, fits, is_block_or_none, mark_legal, position_legal, legal, entry, word_refusal, holder_place, target_place}
use Rattle.machine.specs.Answers.{unless}
use Rattle.machine.specs.OneUnit.{step, met_block, met_word, begun, marked, all_sound, turned_regs, turned, advance, reclaimed, whitened, passed, act, unit}
use Rattle.machine.specs.Units.{run}
use Rattle.machine.specs.Format.{free_list, formatted, format}
use Rattle.machine.specs.Read.{read_refusal, read_answer, read}
use Rattle.machine.specs.Store.{barrier, put_number, put_reference, store_number, store_refusal, store_reference, root_refusal, set_root}
use Rattle.machine.specs.Allocate.{units_due, first_fits, list_refusal, taken, held, take_refusal, allocated, allocate}
use Rattle.machine.specs.Several.{frees, head_refusal, first_frees, list_walks, amongst, distinct, several_refusal, take_several_refusal, nulled, zeroed, serve, several_taken}
use Rattle.machine.specs.Chain.{chain_length, allocate_chain}
use Rattle.machine.specs.Field.{field_place, field_block, link_refusal, walk_refusal, field_refusal, read_field, store_field_number, field_store_refusal, store_field_reference}
use Rattle.machine.specs.Work.{count_refusal, work}
use Rattle.machine.specs.Lists.{all_from, count_from, walk}
use Rattle.machine.specs.Audit.{layout_passes, may_name, may_name_all, zero_from, state_passes, mark_passes, block_passes, frees_pass, passes, audit}
use Rattle.machine.specs.Tell.{tell_state}
use Rattle.machine.specs.Image.{four, fours_of, encode_blocks, encode_with, number, numbers_from, colours_in, bytes_in, words_in, decode, same_list, count_known, is_image}
use Rattle.machine.specs.Save.{save_refusal, save}
use Rattle.machine.specs.Load.{same_lengths, load_refusal, load}
use Rattle.machine.specs.Session.{does, session, last_of}

unfoldable pub the_machine : Unit {0}
unfolding ◌▷◌ is_block eight_words with_eight bit with_bit without_bit references_from colour colour_in grey_white grey_all head_legal greys_pass
    ahead state_from state_in holder_refusal target_refusal may_be_black new_colour numbers_fit lengths_fit fits is_block_or_none mark_legal position_legal legal entry word_refusal holder_place target_place unless
    step met_block met_word begun marked all_sound turned_regs turned advance reclaimed whitened passed act unit run
    free_list formatted format read_refusal read_answer read barrier put_number put_reference store_number store_refusal store_reference root_refusal set_root
    units_due first_fits list_refusal taken held take_refusal allocated allocate
    frees head_refusal first_frees list_walks amongst distinct several_refusal take_several_refusal nulled zeroed serve several_taken chain_length allocate_chain
    field_place field_block link_refusal walk_refusal field_refusal read_field store_field_number field_store_refusal store_field_reference
    count_refusal work all_from count_from walk layout_passes may_name may_name_all zero_from state_passes mark_passes block_passes frees_pass passes audit tell_state
    four fours_of encode_blocks encode_with number numbers_from colours_in bytes_in words_in decode same_list count_known is_image save_refusal save same_lengths load_refusal load does session last_of
the_machine = tt
