-- The law over runs holds of what a line grants.
use Rattle.std.proofs.Common.{◌≡◌, ℕ, ◌≤◌, List, [], ◌∷◌, ◌++◌, length, Some, None, Ok, Err, Option, sym, refl, ap, ◌∙◌, subst, arith}
use Rattle.families.specs.Meanings.{Meaning}
use Rattle.jobs.specs.Roots.{Card, root_tag}
use Rattle.std.specs.List.{flat_map}
use Rattle.std.proofs.lemmas.List.{append-nil}
use Rattle.std.proofs.lemmas.Bool.Decides.{nat_tests}
use Rattle.books.proofs.Laws.{law_holds}
use Rattle.books.specs.Counting.{times}
use Rattle.books.specs.Law.{through, recording, recorded}
use Rattle.books.specs.Law as law
use Rattle.books.specs.Runs.{Books, Event, Run}
use Rattle.books.specs.Runs.Event.{take, seal, strike, call_in, check}
use Rattle.books.specs.declared.fate.Fate.TheVariants.{Sealed}
use Rattle.families.specs.Names.{meaning_of}
use Rattle.line.specs.Choices.{chosen}
use Rattle.line.specs.Commands.{Placed, End, read_at}
use Rattle.line.specs.Grants.{calls_to, calls_in, chosen_in, granted_by, grants, sealing, accepting, LawBy, LinesLawful}
use Rattle.line.specs.Lines.{line_answers, at_first}
use Rattle.line.specs.Sessions.{State, answers_before}
use Rattle.line.specs.declared.answer.Answer.{Answer}
use Rattle.line.specs.declared.answer.Answer.TheVariants as answer
use Rattle.families.specs.declared.name.FamilyName.{FamilyName}
use Rattle.line.specs.declared.refusal.Refusal.{Refusal}
use Rattle.line.proofs.Granted.{Fit, JobProper, commands_fit, to_run, to_same, end_same}
use Rattle.line.proofs.Joins.{joined_joined}
use Rattle.line.proofs.Wholes.{answers_by, answers_by_lem}

-- ---- up to the choice

abbrev chosen_by : Option FamilyName → Option FamilyName → Option FamilyName
chosen_by (Some f) rest = Some f
chosen_by None rest = rest

abbrev calls_by : Option FamilyName → List ℕ → List Placed → State → List Event → List Event
calls_by (Some f) card ps s rest = calls_to (meaning_of f) card ps s
calls_by None card ps s rest = rest

chosen_by_lem : (p : Placed) (ps : List Placed) → chosen_in (p ∷ ps) ≡ chosen_by (chosen p.order) (chosen_in ps)
unfolding chosen_in
chosen_by_lem p ps =
    elim (chosen p.order) as (λ c. (elim c [ Some family ↦ Some family | None ↦ chosen_in ps ]) ≡ chosen_by c (chosen_in ps)) [ Some f ↦ refl | None ↦ refl ]

calls_by_lem : (card : List ℕ) (p : Placed) (ps : List Placed) (s : State) → calls_in card (p ∷ ps) s ≡ calls_by (chosen p.order) card ps s (calls_in card ps s)
unfolding calls_in
calls_by_lem card p ps s =
    elim (chosen p.order) as (λ c. (elim c [ Some family ↦ calls_to (meaning_of family) card ps s | None ↦ calls_in card ps s ]) ≡ calls_by c card ps s (calls_in card ps s)) [ Some f ↦ refl | None ↦ refl ]

module _ (card : List ℕ) (end : End) (long : ℕ) (s : State) (none : s.job ≡ None) where
  -- calls and answers, by the family that is chosen
  abbrev Outcome : Option FamilyName → List Event → List Answer → Type 0
  Outcome None es xs = flat_map grants xs ≡ []
  Outcome (Some f) es xs =
      (d : Books) × (Run (meaning_of f).modulus (root_tag (meaning_of f) card) s.books es d × (flat_map grants xs ≡ flat_map granted_by es))

  refused : (c : Option FamilyName) (es : List Event) (xs : List Answer) (r : Refusal) (place : ℕ) → Outcome c es xs → Outcome c es (answer.Refused r place ∷ xs)
  refused None es xs r place h = h
  refused (Some f) es xs r place h = h

  outcome_by :
      (c rest : Option FamilyName) (place : ℕ) (ps : List Placed) (es : List Event) (xs : List Answer) →
      Fit ps →
      Outcome rest es xs →
      Outcome (chosen_by c rest) (calls_by c card ps s es) (answers_by c card place ps end long s xs)
  outcome_by (Some f) rest place ps es xs fit h =
      let run = to_run (meaning_of f) card ps s fit (subst JobProper (sym none) tt) in
      (run.0, (run.1, to_same (meaning_of f) card ps end long s))
  outcome_by None rest place ps es xs fit h = refused rest es xs _ place h

  outcome : (ps : List Placed) → Fit ps → Outcome (chosen_in ps) (calls_in card ps s) (answers_before card ps end long s)
  unfolding chosen_in answers_before
  outcome [] fit = end_same end long None
  outcome (p ∷ ps) fit =
      let by =
      outcome_by (chosen p.order) (chosen_in ps) p.place ps (calls_in card ps s) (answers_before card ps end long s) fit.1
      (outcome ps fit.1)
      in
      rw (chosen_by_lem p ps, calls_by_lem card p ps s, answers_by_lem card p ps end long s) by

-- ---- the numbers that are sealed and accepted

granted_alone : (f : Answer → List ℕ) → ((r : Refusal) (place : ℕ) → f (answer.Refused r place) ≡ []) → (a : Answer) → flat_map f (grants a) ≡ f a
granted_alone f none (answer.Sealed number tag) = append-nil (f (answer.Sealed number tag))
granted_alone f none (answer.Struck number) = append-nil (f (answer.Struck number))
granted_alone f none (answer.Accepted number) = append-nil (f (answer.Accepted number))
granted_alone f none (answer.Refused r place) = sym (none r place)

seals_called : (e : Event) → flat_map sealing (granted_by e) ≡ recording Sealed e
seals_called (take r) = refl
seals_called (seal p j (Ok x)) = refl
seals_called (seal p j (Err e)) = refl
seals_called (strike p (Ok u)) = refl
seals_called (strike p (Err e)) = refl
seals_called (call_in (Ok n)) = refl
seals_called (call_in (Err e)) = refl
seals_called (check j n t (Ok u)) = refl
seals_called (check j n t (Err e)) = refl

accepts_called : (e : Event) → flat_map accepting (granted_by e) ≡ law.accepting e
accepts_called (take r) = refl
accepts_called (seal p j (Ok x)) = refl
accepts_called (seal p j (Err e)) = refl
accepts_called (strike p (Ok u)) = refl
accepts_called (strike p (Err e)) = refl
accepts_called (call_in (Ok n)) = refl
accepts_called (call_in (Err e)) = refl
accepts_called (check j n t (Ok u)) = refl
accepts_called (check j n t (Err e)) = refl

through_joined : (f : Event → List ℕ) (es : List Event) → flat_map f es ≡ through f es
through_joined f [] = refl
through_joined f (e ∷ es) = ap (λ xs. f e ++ xs) (through_joined f es)

-- what a number stands for in the answers, it stands for in the calls
module _ (f : Answer → List ℕ) (g : Event → List ℕ) (none : (r : Refusal) (place : ℕ) → f (answer.Refused r place) ≡ []) (same' : (e : Event) → flat_map f (granted_by e) ≡ g e) where
  numbers : (xs : List Answer) (es : List Event) → flat_map grants xs ≡ flat_map granted_by es → flat_map f xs ≡ through g es
  numbers xs es h =
      sym (joined_joined f grants f (granted_alone f none) xs) ∙ ap (flat_map f) h ∙ joined_joined f granted_by g same' es ∙ through_joined g es

-- ---- the law

module _ (card pads line : List ℕ) (keyed : Card card) (few : length pads ≤ 256) where
  abbrev events : List Event
  events = calls_in card (read_at line 0).commands (at_first pads)

  law_by :
      (c : Option FamilyName) →
      Outcome card (read_at line 0).end (length line) (at_first pads) refl c events (line_answers card pads line) →
      LawBy c card pads line
  law_by None h = h
  law_by (Some f) h = λ count lawful.
      let m : Meaning = meaning_of f in
      let d : Books = h.0 in
      let run = h.1.0 in
      let same = h.1.1 in
      let both = law_holds pads few m count lawful card keyed events d run in
      record {
        after = d;
        run = run;
        granted = same;
        once = both.0;
        forged = both.1;
        sealed_once = λ n.
            let e : times n (flat_map sealing (line_answers card pads line)) ≡ recorded Sealed n d =
            ap (times n) (numbers sealing (recording Sealed) (λ r place. refl) seals_called (line_answers card pads line) events same)
            ∙ both.0.sealed_recorded n
            in
            let l : recorded Sealed n d ≤ 1 = grind (arith, nat_tests) in
            omega arith;
        accepted_once = λ n.
            let e = ap (times n) (numbers accepting law.accepting (λ r place. refl) accepts_called (line_answers card pads line) events same) in
            let l = both.0.accepted_once n in
            omega arith;
      }

pub lines_lawful : LinesLawful
lines_lawful card pads line keyed few bytes =
    law_by card pads line keyed few (chosen_in (read_at line 0).commands)
    (outcome card (read_at line 0).end (length line) (at_first pads) refl (read_at line 0).commands (commands_fit (length line) 0 line bytes))
