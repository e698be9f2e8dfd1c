-- The law at the run of a transfer's three calls.
use Rattle.std.proofs.Common.{◌≡◌, ℕ, ◌≢◌, List, [], ◌∷◌, Ok, refl, subst, inl, inr}
use Rattle.families.specs.Meanings.{Meaning, Lawful}
use Rattle.jobs.specs.Roots.{Card, Job, Proper, root_tag}
use Rattle.books.specs.Law.{Forged, LawFrom}
use Rattle.books.specs.Office.{Office, taken, sealed}
use Rattle.books.specs.Runs.{Books, Event, Run}
use Rattle.books.specs.Runs.Event.{take, seal, check}
use Rattle.books.specs.Table.{Table, checked}
use Rattle.books.specs.declared.pad.Pad.{Pad}

-- the three granted calls are a run, to which the law applies
pub transferred :
    (b : Books) →
    LawFrom b →
    (m : Meaning) (count : ℕ) →
    Lawful m count →
    (card : List ℕ) →
    Card card →
    (accepted sent : Job) →
    Proper accepted →
    Proper sent →
    accepted ≢ sent →
    (a s : ℕ) →
    a ≡ root_tag m card accepted →
    s ≡ root_tag m card sent →
    (p : Pad) (n st t : ℕ) (o₁ o₂ : Office) (t₁ : Table) →
    Ok p ≡ (taken b.office).0 →
    o₁ ≡ (taken b.office).1 →
    Ok (n, st) ≡ (sealed m.modulus s p o₁).0 →
    o₂ ≡ (sealed m.modulus s p o₁).1 →
    Ok tt ≡ (checked m.modulus a n t b.table).0 →
    t₁ ≡ (checked m.modulus a n t b.table).1 →
    Forged m count card accepted sent t st
transferred b law m count lawful card keyed accepted sent proper proper' differ a s e f p n st t o₁ o₂ t₁ a₁ c₁ a₂ c₂ a₃ c₃ =
    let N : ℕ = m.modulus in
    let es : List Event = take (Ok p) ∷ seal p sent (Ok (n, st)) ∷ check accepted n t (Ok tt) ∷ [] in
    let b₁ : Books = record { office = o₁; table = b.table } in
    let b₂ : Books = record { office = o₂; table = b.table } in
    let b₃ : Books = record { office = o₂; table = t₁ } in
    let run : Run N (root_tag m card) b es b₃ = (
      b₁,
      (a₁, c₁, refl),
      (
        b₂,
        (subst (λ (r : ℕ). Ok (n, st) ≡ (sealed N r p o₁).0) f a₂, subst (λ (r : ℕ). o₂ ≡ (sealed N r p o₁).1) f c₂, refl, proper'),
        (
          b₃,
          (subst (λ (r : ℕ). Ok tt ≡ (checked N r n t b.table).0) e a₃, refl, subst (λ (r : ℕ). t₁ ≡ (checked N r n t b.table).1) e c₃, proper),
          refl,
        ),
      ),
    )
    in
    (law m count lawful card keyed es b₃ run).1 p accepted sent n t st (inr (inl refl)) (inr (inr (inl refl))) differ
