-- The heads of the bend book: when one is lawful. Assumes nothing.
use Rattle.std.specs.Prelude.{◌≡◌, ℕ, ◌+◌, ◌<◌, ◌≤◌, List, length, pos, negsuc, ◌≤ℤ◌, slice_index_or}
use Rattle.bend_book.specs.Bends.{own_bends, cost_at}
use Rattle.bend_book.specs.declared.bend.Bend.{Bend}
use Rattle.bend_book.specs.declared.bend.BendHead.{BendHead}

-- the entry of the table at a place
abbrev pub bend_at : List Bend → ℕ → Bend
bend_at table i = slice_index_or table i (record { minute = 0; step = pos 0 })

-- the bend i of a head
abbrev pub own_bend : List Bend → BendHead → ℕ → Bend
own_bend table h i = bend_at table (h.from + i)

pub record LawfulHead (table : List Bend) (h : BendHead) : Type 0 where
  -- the window lies within the day
  pub ordered : h.first ≤ h.last
  pub day : h.last ≤ 1440
  pub cheap : h.start ≤ 500000
  -- there are few bends, and the table has them all
  pub few : h.count ≤ 16
  pub exist : (i : ℕ) → i < h.count → h.from + i < length table
  -- the first bend comes at the first minute; minutes rise strictly and do not pass the last
  pub begins : 0 < h.count → (own_bend table h 0).minute ≡ h.first
  pub rise : (i : ℕ) → i + 1 < h.count → (own_bend table h i).minute < (own_bend table h (i + 1)).minute
  pub within : (i : ℕ) → i < h.count → (own_bend table h i).minute ≤ h.last
  -- steps lie from -1000 to 1000 and never fall
  pub low : (i : ℕ) → i < h.count → negsuc 999 ≤ℤ (own_bend table h i).step
  pub high : (i : ℕ) → i < h.count → (own_bend table h i).step ≤ℤ pos 1000
  pub climb : (i : ℕ) → i + 1 < h.count → (own_bend table h i).step ≤ℤ (own_bend table h (i + 1)).step
  -- no cost in the window is below 0
  pub above : (t : ℕ) → h.first ≤ t → t ≤ h.last → pos 0 ≤ℤ cost_at h (own_bends table h) t
