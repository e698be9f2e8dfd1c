-- The law over every run.
use Rattle.std.proofs.Common.{◌≡◌, ℕ, ◌+◌, ◌%◌, ◌<◌, ◌≤◌, ◌≢◌, ◌⊎◌, List, length, Some, None, Ok, Option, refl, ap, ◌∙◌, inl, inr, ⊎_elim, arith}
use Rattle.std.proofs.lemmas.Bool.{cases_eq}
use Rattle.std.specs.List.{range_with_len}
use Rattle.families.specs.Meanings.{Meaning, Lawful}
use Rattle.jobs.specs.Roots.{Card, Job, root_list, root_tag}
use Rattle.jobs.proofs.Colliding.{collide}
use Rattle.books.specs.Counting.{times}
use Rattle.books.specs.Law.{taking, spending, accepting, recording, through, Among, Once, Collides, LawFrom}
use Rattle.books.specs.Office.{opened}
use Rattle.books.specs.Runs.{Books, Event, started}
use Rattle.books.specs.Runs.Event.{seal, check}
use Rattle.books.specs.Table.{laid}
use Rattle.books.specs.declared.fate.Fate.TheVariants.{Sealed, Struck}
use Rattle.books.proofs.Counts.{times_same, times_other, times_inside, times_above}
use Rattle.books.proofs.Marks.{Marks, marks_opened}
use Rattle.books.proofs.Moves.{outs, Last, Moves}
use Rattle.books.proofs.Passes.{Passes}
use Rattle.books.proofs.Steps.{Tagged, run_moves, run_marks, run_passes, run_tagged}
use Rattle.books.proofs.Tags.{apart, apart_below, tags_apart, roots_apart}

outs_cases : (n : ℕ) (o : Option ℕ) → ((outs n o ≡ 0) × (o ≢ Some n)) ⊎ ((outs n o ≡ 1) × (o ≡ Some n))
outs_cases n None = inl (refl, λ e. cc)
outs_cases n (Some k) =
    ⊎_elim
    (λ (e : k ≡ n). inr (times_same k n e, ap Some e))
    (λ (ne : k ≡ n → ⊥). inl (times_other k n ne, λ e. ne (cc)))
    (cases_eq k n)

once_from :
    (es : List Event) (ps : List ℕ) (d : Books) →
    length ps ≤ 256 →
    Moves (opened ps) (through taking es) (through spending es) d.office →
    Marks Sealed (opened ps) (through (recording Sealed) es) d.office →
    Marks Struck (opened ps) (through (recording Struck) es) d.office →
    Passes (laid ps) (through accepting es) d.table →
    Once es d
once_from es ps d few moves seals strikes passes =
    let ts : List ℕ = through taking es in
    let ss : List ℕ = through spending es in
    let turn : ts ≡ range_with_len 0 (length ts) = moves.in_turn in
    let counts : (n : ℕ) → times n (range_with_len 0 (length ts)) ≡ times n ss + outs n d.office.out =
    λ n. let x = moves.balance n in let z : times n ts ≡ times n (range_with_len 0 (length ts)) = ap (times n) turn in omega arith
    in
    record {
      in_order = turn;
      spent_once = λ n low.
          let x = counts n in
          let y : times n (range_with_len 0 (length ts)) ≡ 1 = times_inside n 0 (length ts) (omega arith) (omega arith) in
          ⊎_elim
          (λ (c : (outs n d.office.out ≡ 0) × (d.office.out ≢ Some n)). inl (let z = c.0 in omega arith, c.1))
          (λ (c : (outs n d.office.out ≡ 1) × (d.office.out ≡ Some n)). inr (let z = c.0 in omega arith, c.1))
          (outs_cases n d.office.out);
      never_early = λ n high.
          let x = counts n in
          let y : times n (range_with_len 0 (length ts)) ≡ 0 = times_above n 0 (length ts) (omega arith) in
          omega arith;
      last_out = λ n e.
          let start : Last None 0 = λ k f. cc in
          let x = moves.last start n e in
          let y = moves.advances in
          omega arith;
      sealed_recorded = marks_opened Sealed ps (through (recording Sealed) es) d.office refl few seals;
      struck_recorded = marks_opened Struck ps (through (recording Struck) es) d.office refl few strikes;
      accepted_once = passes.once;
    }

collides_from :
    (m : Meaning) (count : ℕ) →
    Lawful m count →
    (card : List ℕ) →
    Card card →
    (ps : List ℕ) (es : List Event) →
    ((e : Event) → Among e es → Tagged m.modulus (root_tag m card) ps ps e) →
    Collides m count card es
collides_from m count lawful card keyed ps es tagged p accepted sealed number at st sealing checking differ =
    let N : ℕ = m.modulus in
    let a : ℕ = root_tag m card accepted in
    let s : ℕ = root_tag m card sealed in
    let a_below : a < N = lawful.below _ (root_list m card accepted) in
    let s_below : s < N = lawful.below _ (root_list m card sealed) in
    let of_seal = tagged (seal p sealed (Ok (number, st))) sealing in
    let of_check = tagged (check accepted number at (Ok tt)) checking in
    let x = of_seal.0 in
    let y = of_check.0 in
    let v : ℕ = p.value in
    let value : y.0 ≡ v = cc (x.0, y.1) in
    let sealed_tag : st ≡ (s + v) % N = x.1 in
    let accepted_tag : at ≡ (a + v) % N = y.2 ∙ ap (λ w. (a + w) % N) value in
    record {
      d = apart N a s v a_below s_below;
      below = apart_below N a s v a_below s_below;
      tags = rw (accepted_tag, sealed_tag) (tags_apart N a s v a_below s_below);
      collision =
          collide m count lawful card keyed accepted sealed of_check.1 of_seal.1 differ
          (apart N a s v a_below s_below) (apart_below N a s v a_below s_below) (roots_apart N a s v a_below s_below);
    }

pub law_holds : (ps : List ℕ) → length ps ≤ 256 → LawFrom (started ps ps)
law_holds ps few m count lawful card keyed es d r =
    let N : ℕ = m.modulus in
    let root : Job → ℕ = root_tag m card in
    let b : Books = started ps ps in (
      once_from es ps d few (run_moves N root es b d r) (run_marks N root Sealed refl es b d r) (run_marks N root Struck refl es b d r)
          (run_passes N root es b d r),
      collides_from m count lawful card keyed ps es (run_tagged N root es b d r),
    )
