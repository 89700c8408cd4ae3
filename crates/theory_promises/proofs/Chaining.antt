-- What a reader of a list wants: a chain of references from the root that no call touches is the same chain afterwards.
--     chain_reachable          every block of a chain from a reachable block is reachable
--     chain_same               a chain whose blocks keep their words is a chain still
--     stays_no_reset, call_root     a call that doesn't change the root makes nothing anew, and leaves the root
--     chains_last              the promise
-- Assumes nothing.
use Prim.Native.Nat.{ℕ, ◌≤◌}
use mathlib.Core.Path.{◌≡◌, refl, sym, ◌∙◌, ap, subst}
use mathlib.Core.Logic.{◌≢◌, inl, inr, ⊎_elim}
use mathlib.Core.List.Memᴰ
use mathlib.Core.List.{List, [], ◌∷◌, map, Memᴰ}
use lib.ListN.{replicate}
use Rattle.machine.specs.Heap.{Heap}
use Rattle.machine.specs.WellFormed.{Names, WellFormed}
use Rattle.machine.specs.Session.{Call, does, session}
use Rattle.theory_moves.proofs.Working.{work_root}
use Rattle.theory_promises.specs.Reachable.{Reachable, is_root, is_named, SameWord}
use Rattle.theory_promises.specs.Deeds.{Act, acted, RootSet, a_unit, an_act, deed, AllAllowed, after}
use Rattle.theory_promises.specs.Plans.{plan, worked, Resets}
use Rattle.theory_promises.specs.Demand2.{Chain, last, onto, ChangesRoot, Untouched, ChainLasts, ChainsLast}
use Rattle.theory_promises.proofs.Viewing.{wf_shape}
use Rattle.theory_promises.proofs.RunMoves.{units_worked}
use Rattle.theory_promises.proofs.DeedMoves.{act_run, deed_formed}
use Rattle.theory_promises.proofs.Planning.{after_append}
use Rattle.theory_promises.proofs.Calls.{known, calls_are_deeds}
use Rattle.theory_promises.proofs.Courses.{call_formed}
use Rattle.theory_promises.proofs.Losing.{word_join, call_safe}

pub chain_reachable : {h : Heap} {a : ℕ} {bs : List ℕ} → Chain h a bs → Reachable h a → (b : ℕ) → Memᴰ b (a ∷ bs) → Reachable h b
chain_reachable {h} last r b i = ⊎_elim (λ e. subst (Reachable h) (sym e) r) (λ j. absurd (Memᴰ.not-nil j)) (Memᴰ.cases_cons i)
chain_reachable {h} (onto n z c) r b i = ⊎_elim (λ e. subst (Reachable h) (sym e) r) (λ j. chain_reachable c (is_named r n z) b j) (Memᴰ.cases_cons i)

names_same : {h k : Heap} {b c : ℕ} → ((w : ℕ) → w ≤ 7 → SameWord h k b w) → Names h b c → Names k b c
names_same s n = record { word = n.word; low = n.low; set = (s n.word n.low).bit ∙ n.set; holds = (s n.word n.low).word ∙ n.holds }

pub chain_same : {h k : Heap} {a : ℕ} {bs : List ℕ} → Chain h a bs → ((b w : ℕ) → Memᴰ b (a ∷ bs) → w ≤ 7 → SameWord h k b w) → Chain k a bs
chain_same last s = last
chain_same (onto n z c) s = onto (names_same (λ w l. s _ w (Memᴰ.head refl) l) n) z (chain_same c (λ b w i l. s b w (Memᴰ.tail i) l))

acts_root : (ys : List Act) (h : Heap) → WellFormed h → AllAllowed (map an_act ys) h → (RootSet ys → ⊥) → (after (map an_act ys) h).regs.root ≡ h.regs.root
unfolding after deed
acts_root [] h f x n = refl
acts_root (a ∷ ys) h f x n =
    acts_root ys (acted a h) (deed_formed h f (an_act a) x.0) x.1 (λ y. n (inr y)) ∙ (act_run h (wf_shape h f) a x.0).root (λ y. n (inl y))

-- a call that leaves the root alone makes nothing anew
pub stays_no_reset : (c : Call) (h : Heap) → (ChangesRoot c h → ⊥) → Resets c h → ⊥
stays_no_reset c h n z = n (inl z)

pub call_root : (h : Heap) → WellFormed h → (c : Call) → (ChangesRoot c h → ⊥) → (does c h).heap.regs.root ≡ h.regs.root
call_root h f c n =
    let p = plan c h in
    let w = units_worked h.regs.blocks p.units h refl f in
    ap (λ (k : Heap). k.regs.root) (calls_are_deeds h f c (stays_no_reset c h n) ∙ after_append (replicate p.units a_unit) (map an_act p.acts) h)
    ∙ acts_root p.acts (worked c h) w.formed (known c h f).allowed (λ y. n (inr y))
    ∙ work_root w.run w.only

lasts : (cs : List Call) (h : Heap) → WellFormed h → (a : ℕ) (bs : List ℕ) → h.regs.root ≡ a → a ≢ 0 → Chain h a bs → Untouched cs h (a ∷ bs) → ChainLasts h (session cs h) a bs
unfolding session
lasts [] h f a bs e z c u = record { root = e; chain = c; words = λ b w i l. record { word = refl; bit = refl } }
lasts (x ∷ cs) h f a bs e z c u =
    let n = stays_no_reset x h u.0.0 in
    let s = call_safe h f x n in
    let k = (does x h).heap in
    let r = chain_reachable c (is_root (sym e) z) in
    let same : (b w : ℕ) → Memᴰ b (a ∷ bs) → w ≤ 7 → SameWord h k b w = λ b w i l. s.same b w (r b i) l (u.0.1 b w i l) in
    let root : k.regs.root ≡ a = call_root h f x u.0.0 ∙ e in
    let t = lasts cs k (call_formed h f x) a bs root z (chain_same c same) u.1 in
    record { root = t.root; chain = t.chain; words = λ b w i l. word_join (same b w i l) (t.words b w i l) }

pub chains_last : ChainsLast
chains_last h f bs cs z c u = lasts cs h f h.regs.root bs refl z c u
