-- The families by number and by name.
use Rattle.std.specs.Prelude.{◌≡◌, ℕ, ◌⊎◌, cond, List, Some, None, Option, codes, ◌==◌}
use Rattle.families.specs.Meanings.{Meaning}
use Rattle.families.specs.Dots.{mmh_star, mmh}
use Rattle.families.specs.Pairs.{nh, nhs}
use Rattle.families.specs.declared.name.FamilyName.{FamilyName}
use Rattle.families.specs.declared.name.FamilyName.TheVariants.{Nh, Nhs, MmhStar, Mmh}

-- what each computes
abbrev pub meaning_of : FamilyName → Meaning
meaning_of Nh = nh
meaning_of Nhs = nhs
meaning_of MmhStar = mmh_star
meaning_of Mmh = mmh

abbrev pub numbered : ℕ → Option FamilyName
numbered number =
    cond (number == 1) (Some Nh) (cond (number == 2) (Some Nhs) (cond (number == 3) (Some MmhStar) (cond (number == 4) (Some Mmh) None)))

-- the names that are printed
abbrev pub shown : FamilyName → List ℕ
shown Nh = codes "NH"
shown Nhs = codes "NHS"
shown MmhStar = codes "MMH*"
shown Mmh = codes "MMH"

-- the names that are read
abbrev pub Named : FamilyName → List ℕ → Type 0
Named Nh text = text ≡ codes "NH"
Named Nhs text = text ≡ codes "NHS"
Named MmhStar text = (text ≡ codes "MMH*") ⊎ (text ≡ codes "MMHSTAR")
Named Mmh text = text ≡ codes "MMH"

-- no family has this name
abbrev pub Unnamed : List ℕ → Type 0
Unnamed text = (family : FamilyName) → Named family text → ⊥
