-- A law of what is read of a block.
--     word_read            a word of the block is that of its eight words
-- Assumes nothing.
use Prim.Native.Nat.{ℕ, ◌<◌}
use mathlib.Core.Path.{◌≡◌, refl, sym, ◌∙◌}
use mathlib.Core.List.{List}
use lib.ListN.{get_or}
use lib.Seq.{get_or-take, get_or-drop}
use Rattle.machine.specs.Block.{word_of, eight_words}

pub word_read : (ws : List ℕ) (b w : ℕ) {x : ℕ} → w < 8 → x ≡ word_of ws b w → x ≡ get_or (eight_words ws b) w 0
unfolding eight_words
word_read ws b w l e = e ∙ sym (rw (get_or-take, get_or-drop) refl)
