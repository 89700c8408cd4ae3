-- The four colours of the abstract heap, and the one way in which marking changes them.
--     Tint                 White, Grey, Black, Free
--     Turned S s t         a block of the set S that was white turned grey, and any other block stayed
-- Begin, mark and the barrier all change colours by Turned, with S different in each.
-- Assumes nothing.
use Rattle.std.specs.Prelude.{◌≡◌, ◌≢◌}

pub data Tint : Type 0 where
  White Grey Black Free : Tint

pub data Turned (S : Type 0) (s t : Tint) : Type 0 where
  turned : S → s ≡ White → t ≡ Grey → Turned S s t
  stayed : (S → s ≢ White) → t ≡ s → Turned S s t
