-- The segments that were taken from a router's journal, and how many of them are kept.
use Rattle.std.specs.Prelude.{◌≡◌, ◌+◌, ℕ, Bool, false, true}

-- How many of the segments that were taken are kept, the first so many, and whether they are all.
pub record Kept : Type 0 where
  pub kept : ℕ
  pub are_all : Bool

-- The next segment is given to who keeps them: it is kept, as all before it are; or they aren't all any more, and no more than before are.
pub record IsGiven (before now : Kept) : Type 0 where
  pub kept : now.are_all ≡ true → (before.are_all ≡ true) × (now.kept ≡ before.kept + 1)
  pub unkept : now.are_all ≡ false → now.kept ≡ before.kept
