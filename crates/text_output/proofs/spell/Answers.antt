-- `text_output::spell` meets its contract: the number's digits, and the byte after them. Assumes nothing.
use Rattle.std.proofs.Common.{rules, ◌∙◌, ap, sym}
use Rattle.std.proofs.lemmas.Slice.{take-put_mid}
use mathlib.Core.List.{◌++◌, List}
use Prim.Native.Nat.{ℕ, ◌+◌}
use lib.ListN.{length, take}
use Rattle.text_output.proofs.Writing.{few, spells}
use Rattle.text_output.proofs.spell.Goals as goal

pub returns : goal.returns
returns c =
    let f = few c.args.n c.decimal-k.result c.ranges.n.fits c.decimal-k.ensures.len in
    spells c.args.out.now c.decimal-k.new.out _ c.args.at c.args.n c.args.stop c.decimal-k.result c.requires f (search rules) c.decimal-k.ensures.len c.decimal-k.ensures.digits
    (take-put_mid c.args.at _ c.args.out.now c.copy_from_slice.new.self _ (ap (λ (i : ℕ). c.args.at + i) (c.decimal-k.ensures.in_bounds.1 ∙ sym (ap length c.copy_from_slice.ensures.after))) (search rules) ∙ ap (λ (xs : List ℕ). take c.args.at c.args.out.now ++ xs) c.copy_from_slice.ensures.after)
