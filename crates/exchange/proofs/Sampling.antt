-- A run with every kind of event.
use Rattle.std.proofs.Common.{◌≡◌, ℕ, ◌+◌, ◌%◌, ◌<◌, cond, eqb, ltb, Ok, Err, Result, sym, refl, ap, ◌∙◌, mod-lt, arith}
use Rattle.std.proofs.lemmas.Bool.{lt-ltb, eq-eqb, cond-true}
use Rattle.jobs.specs.Roots.{Job, Proper, root_tag}
use Rattle.books.specs.Office.{Office, opened, handed, spent}
use Rattle.books.specs.Runs.{Books, Run, started}
use Rattle.books.specs.Table.{Table, laid, passed, checked}
use Rattle.books.specs.declared.fate.Fate.TheVariants.{Sealed, Struck}
use Rattle.books.specs.declared.refusals.CheckError.{CheckError}
use Rattle.books.specs.declared.refusals.CheckError.TheVariants.{NotATag, WrongTag}
use Rattle.exchange.specs.Samples.{three, sample, RunExists}

abbrev both : Office → Table → Books
both o t = record { office = o; table = t }

-- the books from call to call
abbrev o₁ : Office
o₁ = handed (opened three)

abbrev o₂ : Office
o₂ = spent Sealed 0 o₁

abbrev o₃ : Office
o₃ = handed o₂

abbrev o₄ : Office
o₄ = spent Struck 1 o₃

abbrev o₅ : Office
o₅ = handed o₄

abbrev o₆ : Office
o₆ = spent Struck 2 o₅

abbrev t₀ : Table
t₀ = laid three

abbrev t₁ : Table
t₁ = passed 0 t₀

module _ (modulus : ℕ) (some : 0 < modulus) (root : Job → ℕ) (job : Job) (proper : Proper job) where
  abbrev tag : ℕ
  tag = (root job + 5) % modulus

  -- the table accepts the tag that the office sealed
  accepted : checked modulus (root job) 0 tag (laid three) ≡ (Ok tt, passed 0 (laid three))
  accepted =
      let Outcome : Type 0 = Result (Unit {0}) CheckError × Table in
      let granted : Outcome = (Ok tt, passed 0 (laid three)) in
      let wrong : Outcome = (Err WrongTag, laid three) in
      let none : Outcome = (Err NotATag, laid three) in
      cond-true (ltb tag modulus) (cond (eqb tag tag) granted wrong) none (lt-ltb tag modulus (mod-lt (root job + 5) some))
      ∙ cond-true (eqb tag tag) granted wrong (eq-eqb tag tag refl)

  pub sampled : Run modulus root (started three three) (sample job tag) (both o₆ t₁)
  sampled = (
    both o₁ t₀,
    (refl, refl, refl),
    (
      both o₁ t₀,
      (refl, refl, refl),
      (
        both o₂ t₀,
        (refl, refl, refl, proper),
        (
          both o₂ t₁,
          (sym (ap (λ x. x.0) accepted), refl, sym (ap (λ x. x.1) accepted), proper),
          (
            both o₂ t₁,
            (refl, refl, refl, proper),
            (
              both o₃ t₁,
              (refl, refl, refl),
              (
                both o₄ t₁,
                (refl, refl, refl),
                (
                  both o₅ t₁,
                  (refl, refl, refl),
                  (
                    both o₆ t₁,
                    (refl, refl, refl),
                    (
                      both o₆ t₁,
                      (refl, refl, refl, proper),
                      (
                        both o₆ t₁,
                        (refl, refl, refl),
                        (
                          both o₆ t₁,
                          (refl, refl, refl),
                          refl,
                        ),
                      ),
                    ),
                  ),
                ),
              ),
            ),
          ),
        ),
      ),
    ),
  )

pub run_exists : RunExists
run_exists m count lawful card job proper =
    let low = lawful.modulus_low in
    let root : Job → ℕ = root_tag m card in
    (both o₆ t₁, sampled m.modulus (omega arith) root job proper)
