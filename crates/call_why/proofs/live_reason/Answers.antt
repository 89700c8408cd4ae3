-- `call_why::live_reason` meets its contract: the block was found by the search, or not. Assumes nothing.
use mathlib.Core.Path.{ap}
use native.Mathlib.Omega.{arith}
use Rattle.machine.specs.Search.{Found}
use Rattle.call_why.proofs.Ways.{traced, kept, reached}
use Rattle.call_why.proofs.live_reason.Goals as goal

pub put_path-pairs-requires : goal.put_path-pairs-requires
put_path-pairs-requires c =
    let found = ap (λ (f : Found). f.came) c.search.ensures.1 in
    let room = c.requires.3 in
    let size = c.search.auto.came in
    let same = c.requires.5 in
    (traced _ _ c.args.words.now c.args.bytes.now found c.requires.0 c.requires.6, omega arith)

pub returns-then-way_to-eq0 : goal.returns-then-way_to-eq0
returns-then-way_to-eq0 c =
    let found = ap (λ (f : Found). f.came) c.search.ensures.1 in
    λ r cs em er live. kept _ _ c.args.words.now c.args.bytes.now found r cs _ _ em er live _
    c.put_path-pairs.ensures.1 c.way_to.ensures c.if-way_to-eq0.true

pub returns : goal.returns
returns c =
    let found = ap (λ (f : Found). f.came) c.search.ensures.1 in
    λ r cs em er live. reached _ _ c.args.words.now c.args.bytes.now found r cs _ _ em er live _
    c.put_path-pairs.ensures.1 c.put_path-pairs.ensures.0 c.way_to.ensures c.if-way_to-eq0.false
