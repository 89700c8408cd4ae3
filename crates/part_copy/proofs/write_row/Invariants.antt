use Prim.Native.Nat.{◌-◌, ◌*◌}
use mathlib.Core.Path.{◌≡◌}
use mathlib.Core.List.{◌++◌}
use lib.ListN.{length, take}
use Rattle.part_copy.specs.Chains.{Chained, chain_words}
use Rattle.part_copy.proofs.write_row.Given as goal

abbrev pub invariant-loop-i : goal.invariant-loop-i
invariant-loop-i l =
    Chained (l.links - l.i) l.at l.words
    × (chain_words l.links (length l.initial.row) l.b l.words ≡ take (7 * l.i) l.row ++ chain_words (l.links - l.i) (length l.initial.row - 7 * l.i) l.at l.words)
