-- How rows are spelled in bytes.
use Rattle.std.specs.Prelude.{◌≡◌, ℕ, ◌+◌, ◌*◌, ◌/◌, Bool, true, false, List, [], ◌∷◌, ◌++◌}
use Rattle.source.specs.declared.due.DueRow.{DueRow}
use Rattle.source.specs.Due.{row_lawful}
use Rattle.reader.specs.Records.{stands}

-- a field's bytes: where its bit stands, two bytes, high byte first; else none, and the value is that of an absent field
abbrev pub Field : Bool → ℕ → ℕ → List ℕ → Type 0
Field true absent value bytes = (high : ℕ) × (low : ℕ) × (value ≡ high * 256 + low) × (bytes ≡ high ∷ low ∷ [])
Field false absent value bytes = (value ≡ absent) × (bytes ≡ [])

-- bytes that spell a row: a map byte with bits 5 to 7 clear, and then the fields in the order of their bits
pub record Spelled (row : DueRow) (bytes : List ℕ) : Type 0 where
  pub map : ℕ
  pub clear : map / 32 ≡ 0
  pub first : List ℕ
  pub last : List ℕ
  pub due : List ℕ
  pub early : List ℕ
  pub late : List ℕ
  pub has_first : Field (stands map 0) 0 row.first first
  pub has_last : Field (stands map 1) 1440 row.last last
  pub has_due : Field (stands map 2) 0 row.due due
  pub has_early : Field (stands map 3) 0 row.early early
  pub has_late : Field (stands map 4) 0 row.late late
  pub written : bytes ≡ map ∷ (first ++ (last ++ (due ++ (early ++ late))))

-- bytes that spell lawful rows one after another
abbrev pub Rows : List DueRow → List ℕ → Type 0
Rows [] bytes = bytes ≡ []
Rows (row ∷ more) bytes =
    (front : List ℕ) × (back : List ℕ) × Spelled row front × (row_lawful row ≡ true) × Rows more back × (bytes ≡ front ++ back)
