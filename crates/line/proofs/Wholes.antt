-- Whole lines: lists of commands in bytes, and how the answers go on.
use Rattle.std.proofs.ByRecursion.{All-drop}
use Rattle.std.proofs.Common.{◌≡◌, ℕ, zero, suc, ◌+◌, ◌<◌, ◌≤◌, ◌⊎◌, List, [], ◌∷◌, ◌++◌, map, length, drop, Some, None, Ok, Err, Option, Result, sym, refl, ap, ◌∙◌, inl, inr, append_assoc, add-zero, zero-add, arith, length-append, take-append-drop}
use Rattle.families.specs.Meanings.{Meaning}
use Rattle.jobs.specs.Reading.{Bytes}
use Rattle.jobs.specs.Roots.{Job}
use Rattle.std.proofs.lemmas.List.{drop_at, append-nil}
use Rattle.std.specs.List.{AllByRecursion}
use Rattle.families.specs.Names.{meaning_of}
use Rattle.line.specs.Choices.{chosen}
use Rattle.line.specs.Commands.{Order, Placed, End, Reading, encoded, width, first, read_from, read_at, behind, nothing}
use Rattle.line.specs.Commands.End.{all_read}
use Rattle.line.specs.Laws.{Fitting, encoded_all, placed_from, AllRead, AllWritten, LinesExtend}
use Rattle.line.specs.Lines.{at_first}
use Rattle.line.specs.Sessions.{State, obeyed, replies, finished, answers_to, answers_before}
use Rattle.line.specs.declared.answer.Answer.{Answer}
use Rattle.line.specs.declared.answer.Answer.TheVariants.{Refused}
use Rattle.families.specs.declared.name.FamilyName.{FamilyName}
use Rattle.line.specs.declared.refusal.LineFault.{LineFault}
use Rattle.line.specs.declared.refusal.Refusal.TheVariants as refusal
use Rattle.line.specs.declared.refusal.SessionFault.TheVariants as session
use Rattle.line.proofs.Codes.{written_read, read_written, width-encoded}
use Rattle.line.proofs.Lines.{read_by, read_some, next_of, shorter}

-- ---- a list of commands that was written

-- commands before what else is read
abbrev along : List Placed → Reading → Reading
along ps r = record { commands = ps ++ r.commands; end = r.end }

read_front :
    (os : List Order) →
    AllByRecursion Fitting os →
    (place : ℕ) (more : List ℕ) →
    read_from (length (encoded_all os ++ more)) place (encoded_all os ++ more)
    ≡ along (placed_from place os) (read_from (length more) (place + length (encoded_all os)) more)
read_front [] h place more = ap (λ n. read_from (length more) n more) (sym (add-zero place))
read_front (o ∷ os) h place more =
    let rest : List ℕ = encoded_all os ++ more in
    let wide = width-encoded o h.0 in
    let put : Placed = record { place = place; order = o } in
    ap (λ (bs : List ℕ). read_from (length bs) place bs) (append_assoc (encoded o) (encoded_all os) more)
    ∙ next_of place (encoded o ++ rest) o (written_read o h.0 rest)
    ∙ ap (λ (bs : List ℕ). behind put (read_from (length bs) (place + width o) bs)) (drop_at (encoded o) rest (width o) wide)
    ∙ ap (behind put) (read_front os h.1 (place + width o) more)
    ∙ ap (λ n. behind put (along (placed_from (place + width o) os) (read_from (length more) n more)))
    (let s = length-append (encoded o) (encoded_all os) in omega arith)

pub all_read_again : AllRead
all_read_again os h more =
    let front : List ℕ = encoded_all os in
    read_front os h 0 more
    ∙ ap (λ n. along (placed_from 0 os) (read_from (length more) n more)) (zero-add (length front))
    ∙ ap (λ (bs : List ℕ). along (placed_from 0 os) (read_from (length bs) (length front) bs)) (sym (drop_at front more (length front) refl))

-- ---- a line that was read

abbrev orders : Reading → List Order
orders r = map (λ p. p.order) r.commands

none_written : (n place : ℕ) → encoded_all (orders (read_from n place [])) ≡ []
unfolding read_from
none_written zero place = refl
none_written (suc n) place = refl

-- all that n commands at most are read from is written again
abbrev Again : ℕ → Type 0
Again n =
    (place : ℕ) (line : List ℕ) → Bytes line → length line ≤ n → (read_from n place line).end ≡ all_read → encoded_all (orders (read_from n place line)) ≡ line

written_by :
    (n place byte : ℕ) (bs : List ℕ) →
    Again n →
    Bytes (byte ∷ bs) →
    length bs ≤ n →
    (r : Result Order LineFault) →
    first (byte ∷ bs) ≡ r →
    (read_by r n place (byte ∷ bs)).end ≡ all_read →
    encoded_all (orders (read_by r n place (byte ∷ bs))) ≡ byte ∷ bs
written_by n place byte bs again bytes l (Err f) e h = cc
written_by n place byte bs again bytes l (Ok o) e h =
    let s = shorter o byte bs in
    let line : List ℕ = byte ∷ bs in
    ap (λ xs. encoded o ++ xs)
    (again (place + width o) (drop (width o) line) (All-drop (λ b. b < 256) (width o) line bytes) (omega arith) h)
    ∙ ap (λ xs. xs ++ drop (width o) line) (sym (read_written line bytes o e).1)
    ∙ take-append-drop (width o) line

written_from : (n : ℕ) → Again n
written_from n place [] bytes l h = none_written n place
written_from zero place (byte ∷ bs) bytes l h = absurd (omega arith)
written_from (suc n) place (byte ∷ bs) bytes l h =
    let same = read_some n place byte bs in
    ap (λ r. encoded_all (orders r)) same
    ∙ written_by n place byte bs (written_from n) bytes (omega arith) (first (byte ∷ bs)) refl (sym (ap (λ r. r.end) same) ∙ h)

pub all_written : AllWritten
all_written line bytes h = written_from (length line) 0 line bytes (omega arith) h

-- ---- how the answers go on

said_to : Meaning → List ℕ → List Placed → State → List Answer
said_to m card [] s = []
said_to m card (p ∷ ps) s = replies p.place (obeyed m card p.order s).0 ++ said_to m card ps (obeyed m card p.order s).1

after_to : Meaning → List ℕ → List Placed → State → State
after_to m card [] s = s
after_to m card (p ∷ ps) s = after_to m card ps (obeyed m card p.order s).1

split_to :
    (m : Meaning) (card : List ℕ) (ps qs : List Placed) (end : End) (long : ℕ) (s : State) →
    answers_to m card (ps ++ qs) end long s ≡ said_to m card ps s ++ answers_to m card qs end long (after_to m card ps s)
unfolding answers_to said_to after_to
split_to m card [] qs end long s = refl
split_to m card (p ∷ ps) qs end long s =
    let x = obeyed m card p.order s in
    ap (λ rest. replies p.place x.0 ++ rest) (split_to m card ps qs end long x.1)
    ∙ sym (append_assoc (replies p.place x.0) (said_to m card ps x.1) (answers_to m card qs end long (after_to m card ps x.1)))

-- by what the first command chooses
abbrev said_by : Option FamilyName → List ℕ → ℕ → List Placed → State → List Answer → List Answer
said_by (Some f) card place ps s rest = said_to (meaning_of f) card ps s
said_by None card place ps s rest = Refused (refusal.Session session.Choice) place ∷ rest

said_before : List ℕ → List Placed → State → List Answer
said_before card [] s = []
said_before card (p ∷ ps) s = said_by (chosen p.order) card p.place ps s (said_before card ps s)

abbrev later_by : Option FamilyName → List ℕ → List Placed → List Placed → End → ℕ → State → List Answer → List Answer
later_by (Some f) card ps qs end long s rest = answers_to (meaning_of f) card qs end long (after_to (meaning_of f) card ps s)
later_by None card ps qs end long s rest = rest

later : List ℕ → List Placed → List Placed → End → ℕ → State → List Answer
later card [] qs end long s = answers_before card qs end long s
later card (p ∷ ps) qs end long s = later_by (chosen p.order) card ps qs end long s (later card ps qs end long s)

abbrev pub answers_by : Option FamilyName → List ℕ → ℕ → List Placed → End → ℕ → State → List Answer → List Answer
answers_by (Some f) card place ps end long s rest = answers_to (meaning_of f) card ps end long s
answers_by None card place ps end long s rest = Refused (refusal.Session session.Choice) place ∷ rest

pub answers_by_lem :
    (card : List ℕ) (p : Placed) (ps : List Placed) (end : End) (long : ℕ) (s : State) →
    answers_before card (p ∷ ps) end long s ≡ answers_by (chosen p.order) card p.place ps end long s (answers_before card ps end long s)
unfolding answers_before
answers_by_lem card p ps end long s =
    elim (chosen p.order) as (λ c. (elim c [
      | Some family ↦ answers_to (meaning_of family) card ps end long s
      | None ↦ Refused (refusal.Session session.Choice) p.place ∷ answers_before card ps end long s
    ]) ≡ answers_by c card p.place ps end long s (answers_before card ps end long s)) [ Some f ↦ refl | None ↦ refl ]

module _ (card : List ℕ) (qs : List Placed) (end : End) (long : ℕ) (s : State) where
  split_by :
      (c : Option FamilyName) (place : ℕ) (ps : List Placed) (said rest all : List Answer) →
      all ≡ said ++ rest →
      answers_by c card place (ps ++ qs) end long s all ≡ said_by c card place ps s said ++ later_by c card ps qs end long s rest
  split_by (Some f) place ps said rest all h = split_to (meaning_of f) card ps qs end long s
  split_by None place ps said rest all h = ap (λ xs. Refused (refusal.Session session.Choice) place ∷ xs) h

  split_before : (ps : List Placed) → answers_before card (ps ++ qs) end long s ≡ said_before card ps s ++ later card ps qs end long s
  unfolding said_before later
  split_before [] = refl
  split_before (p ∷ ps) =
      answers_by_lem card p (ps ++ qs) end long s
      ∙ split_by (chosen p.order) p.place ps (said_before card ps s) (later card ps qs end long s) (answers_before card (ps ++ qs) end long s)
      (split_before ps)

-- what the end alone may answer
abbrev AtEnd : ℕ → List Answer → Type 0
AtEnd long xs = (xs ≡ []) ⊎ (xs ≡ Refused (refusal.Session session.Job) long ∷ [])

end_of : (long : ℕ) (job : Option Job) → AtEnd long (replies long (finished job))
end_of long None = inl refl
end_of long (Some job) = inr refl

end_to : (m : Meaning) (card : List ℕ) (long : ℕ) (s : State) → AtEnd long (answers_to m card [] all_read long s)
unfolding answers_to
end_to m card long s = end_of long s.job

end_first : (card : List ℕ) (long : ℕ) (s : State) → AtEnd long (answers_before card [] all_read long s)
unfolding answers_before
end_first card long s = inl refl

end_by : (c : Option FamilyName) (card : List ℕ) (ps : List Placed) (long : ℕ) (s : State) (rest : List Answer) → AtEnd long rest → AtEnd long (later_by c card ps [] all_read long s rest)
end_by (Some f) card ps long s rest h = end_to (meaning_of f) card long (after_to (meaning_of f) card ps s)
end_by None card ps long s rest h = h

end_later : (card : List ℕ) (ps : List Placed) (long : ℕ) (s : State) → AtEnd long (later card ps [] all_read long s)
unfolding later
end_later card [] long s = end_first card long s
end_later card (p ∷ ps) long s = end_by (chosen p.order) card ps long s (later card ps [] all_read long s) (end_later card ps long s)

nothing_read : (place : ℕ) → read_from 0 place [] ≡ nothing all_read
unfolding read_from
nothing_read place = refl

pub lines_extend : LinesExtend
lines_extend card pads os h more =
    let front : List ℕ = encoded_all os in
    let ps : List Placed = placed_from 0 os in
    let s : State = at_first pads in
    let line : List ℕ = front ++ more in
    let r : Reading = read_from (length more) (0 + length front) more in
    let whole : read_at line 0 ≡ along ps r = read_front os h 0 more in
    let alone : read_at front 0 ≡ along ps (nothing all_read) =
    ap (λ (xs : List ℕ). read_at xs 0) (sym (append-nil front)) ∙ read_front os h 0 [] ∙ ap (along ps) (nothing_read (0 + length front))
    in
    record {
      said = said_before card ps s;
      later = later card ps r.commands r.end (length line) s;
      longer =
          ap (λ (x : Reading). answers_before card x.commands x.end (length line) s) whole
          ∙ split_before card r.commands r.end (length line) s ps;
      ending = later card ps [] all_read (length front) s;
      alone =
          ap (λ (x : Reading). answers_before card x.commands x.end (length front) s) alone
          ∙ split_before card [] all_read (length front) s ps;
      only = end_later card ps (length front) s;
    }
