-- `text_streams::cutting::cut_line` meets its contract: the bytes before byte 10, and those that there is room for. Assumes nothing.
use Rattle.std.proofs.Common.{rules, tests, ◌∙◌, ap, sym}
use Rattle.std.proofs.lemmas.Slice.{take-put_mid}
use Rattle.std.proofs.lemmas.Iterator.{YieldsList-from_slice}
use Rattle.std.proofs.lemmas.Iterator.Search.{position_from_yields_List}
use Prim.Native.Nat.{ℕ, ◌+◌, ◌-◌}
use native.Mathlib.Omega.{arith}
use lib.Seq.{take_all}
use mir.Val.{bool_byte}
use lib.Dec.{eqb}
use lib.ListN.{length, take, drop, length-drop}
use mathlib.Core.List.{List, ◌++◌}
use Rattle.text_streams.proofs.Cuts.{cuts}
use Rattle.text_streams.proofs.cutting.cut_line.Goals as goal

pub returns : goal.returns
returns c =
    let input = c.args.input.now in
    let rest : List ℕ = take (length input - c.args.from) (drop c.args.from input) in
    cuts input c.args.line.now _ rest c.args.from c.args.kept c.position-end.result c.unwrap_or-passed.result _ _ _ c.requires.0 c.requires.1
    (take_all (length input - c.args.from) (drop c.args.from input) (let d = length-drop c.args.from input in omega arith))
    (position_from_yields_List (λ x. eqb x 10) _ _ _ c.position-end.ensures.ran (YieldsList-from_slice rest cc) (λ x b q k. search (rules, tests)))
    c.unwrap_or-passed.ensures
    c.is_some-2.ensures
    (c.from.ensures ∙ ap bool_byte (c.is_some.ensures ∙ sym c.is_some-2.ensures))
    c.min-room.ensures
    (search rules)
    (take-put_mid c.args.kept _ c.args.line.now c.copy_from_slice.new.self _ (ap (λ (i : ℕ). c.args.kept + i) (search rules)) c.requires.1 ∙ ap (λ (xs : List ℕ). take c.args.kept c.args.line.now ++ xs) c.copy_from_slice.ensures.after)
