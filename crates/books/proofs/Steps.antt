-- What each step and each run does.
use Rattle.std.proofs.Common.{◌≡◌, ℕ, false, List, [], ◌∷◌, sym, subst, inl, inr}
use Rattle.jobs.specs.Roots.{Job, Proper}
use Rattle.books.specs.Fates.{fate_is}
use Rattle.books.specs.Law.{taking, spending, recording, accepting, through, Among}
use Rattle.books.specs.Runs.{Books, Event, Step, Run}
use Rattle.books.specs.Runs.Event.{take, seal, strike, call_in, check}
use Rattle.books.specs.declared.fate.Fate.{Fate}
use Rattle.books.specs.declared.fate.Fate.TheVariants.{Unspent}
use Rattle.books.proofs.Marks.{Marks, Marked, unmarked, take_marks, strike_marks, seal_marks, call_in_marks, marks_then}
use Rattle.books.proofs.Moves.{Moves, Moved, stays, take_moves, strike_moves, seal_moves, call_in_moves, moves_then}
use Rattle.books.proofs.Passes.{Passes, rests, Matching, check_passes, check_matches, passes_then}
use Rattle.books.proofs.Tags.{Sealing, seal_matches}

module _ (modulus : ℕ) (root : Job → ℕ) where
  step_moves : (b c : Books) (e : Event) → Step modulus root b e c → Moved b.office e c.office
  step_moves b c (take r) s = rw (s.0, s.1) (take_moves b.office)
  step_moves b c (seal p j r) s = rw (s.0, s.1) (seal_moves modulus (root j) p j b.office)
  step_moves b c (strike p r) s = rw (s.0, s.1) (strike_moves p b.office)
  step_moves b c (call_in r) s = rw (s.0, s.1) (call_in_moves b.office)
  step_moves b c (check j n t r) s = rw s.1 (stays b.office)

  pub run_moves : (es : List Event) (b d : Books) → Run modulus root b es d → Moves b.office (through taking es) (through spending es) d.office
  run_moves [] b d r = subst (λ (x : Books). Moves b.office [] [] x.office) (sym r) (stays b.office)
  run_moves (e ∷ es) b d r =
      moves_then b.office r.0.office d.office (taking e) (through taking es) (spending e) (through spending es)
      (step_moves b r.0 e r.1) (run_moves es r.0 d r.2)

  module _ (f : Fate) (some : fate_is f Unspent ≡ false) where
    step_marks : (b c : Books) (e : Event) → Step modulus root b e c → Marked f b.office e c.office
    step_marks b c (take r) s = rw s.1 (take_marks f some b.office)
    step_marks b c (seal p j r) s = rw (s.0, s.1) (seal_marks f some b.office modulus (root j) p j)
    step_marks b c (strike p r) s = rw (s.0, s.1) (strike_marks f some b.office p)
    step_marks b c (call_in r) s = rw (s.0, s.1) (call_in_marks f some b.office)
    step_marks b c (check j n t r) s = rw s.1 (unmarked f b.office)

    pub run_marks : (es : List Event) (b d : Books) → Run modulus root b es d → Marks f b.office (through (recording f) es) d.office
    run_marks [] b d r = subst (λ (x : Books). Marks f b.office [] x.office) (sym r) (unmarked f b.office)
    run_marks (e ∷ es) b d r =
        marks_then f b.office r.0.office d.office (recording f e) (through (recording f) es)
        (step_marks b r.0 e r.1) (run_marks es r.0 d r.2)

  step_passes : (b c : Books) (e : Event) → Step modulus root b e c → Passes b.table (accepting e) c.table
  step_passes b c (take r) s = rw s.2 (rests b.table)
  step_passes b c (seal p j r) s = rw s.2 (rests b.table)
  step_passes b c (strike p r) s = rw s.2 (rests b.table)
  step_passes b c (call_in r) s = rw s.2 (rests b.table)
  step_passes b c (check j n t r) s = rw (s.0, s.2) (check_passes modulus (root j) b.table j n t)

  pub run_passes : (es : List Event) (b d : Books) → Run modulus root b es d → Passes b.table (through accepting es) d.table
  run_passes [] b d r = subst (λ (x : Books). Passes b.table [] x.table) (sym r) (rests b.table)
  run_passes (e ∷ es) b d r =
      passes_then b.table r.0.table d.table (accepting e) (through accepting es)
      (step_passes b r.0 e r.1) (run_passes es r.0 d r.2)

  -- what an event says of its tag and job, over the two lists of pads
  abbrev pub Tagged : List ℕ → List ℕ → Event → Type 0
  Tagged ps qs (take r) = Unit {0}
  Tagged ps qs (seal p j r) = Sealing modulus (root j) ps p r × Proper j
  Tagged ps qs (strike p r) = Unit {0}
  Tagged ps qs (call_in r) = Unit {0}
  Tagged ps qs (check j n t r) = Matching modulus (root j) qs n t r × Proper j

  step_tagged : (b c : Books) (e : Event) → Step modulus root b e c → Tagged b.office.pads b.table.pads e
  step_tagged b c (take r) s = tt
  step_tagged b c (seal p j r) s = (rw s.0 (seal_matches modulus (root j) p b.office), s.3)
  step_tagged b c (strike p r) s = tt
  step_tagged b c (call_in r) s = tt
  step_tagged b c (check j n t r) s = (rw s.0 (check_matches modulus (root j) b.table j n t), s.3)

  pub run_tagged : (es : List Event) (b d : Books) → Run modulus root b es d → (e : Event) → Among e es → Tagged b.office.pads b.table.pads e
  run_tagged [] b d r e a = absurd a
  run_tagged (x ∷ es) b d r e (inl same) = subst (Tagged b.office.pads b.table.pads) (sym same) (step_tagged b r.0 x r.1)
  run_tagged (x ∷ es) b d r e (inr later) =
      let rest = run_tagged es r.0 d r.2 e later in
      let office : r.0.office.pads ≡ b.office.pads = (step_moves b r.0 x r.1).same_pads in
      let table : r.0.table.pads ≡ b.table.pads = (step_passes b r.0 x r.1).same_pads in
      subst (λ (ps : List ℕ). Tagged ps b.table.pads e) office (subst (λ (qs : List ℕ). Tagged r.0.office.pads qs e) table rest)
