-- What a turn of the loop answers, and the room that it takes.
use Rattle.std.proofs.Common.{◌≡◌, ℕ, ◌+◌, ◌*◌, ◌<◌, ◌≤◌, List, [], ◌++◌, length, drop, Some, None, Ok, Err, Option, Result, refl, sym, ap, ◌∙◌, arith, length-append}
use Rattle.families.specs.Meanings.{Meaning}
use Rattle.jobs.specs.Roots.{Job, root_tag}
use Rattle.books.specs.Office.{Office, taken}
use Rattle.books.specs.declared.pad.Pad.{Pad}
use Rattle.books.specs.declared.refusals.TakeError.{TakeError}
use Rattle.std.proofs.lemmas.Grind.{flat_map-append}
use Rattle.std.specs.Option.{ok_or}
use Rattle.line.specs.Beginnings.{choice_of}
use Rattle.line.specs.Buffers.{answers_bytes}
use Rattle.line.specs.Steps.{past}
use Rattle.families.specs.Names.{meaning_of}
use Rattle.line.specs.Choices.{chosen}
use Rattle.line.specs.Commands.{Order, Reading, first, width, read_at}
use Rattle.line.specs.Commands.Order.{choose, open_job, feed_byte, feed_block, seal_job, strike_pad, check_job}
use Rattle.line.specs.Lines.{answers_from, unchosen_from}
use Rattle.line.specs.Numbers.{answer_bytes}
use Rattle.line.specs.Sessions.{State, Reply, obeyed, replies, finished, answers_to, answers_before, seals_by, seals_with, strikes_with, with_job}
use Rattle.line.specs.declared.answer.Answer.{Answer}
use Rattle.line.specs.declared.answer.Answer.TheVariants.{Sealed, Struck, Accepted, Refused}
use Rattle.families.specs.declared.name.FamilyName.{FamilyName}
use Rattle.line.specs.declared.refusal.LineFault.{LineFault}
use Rattle.line.specs.declared.refusal.Refusal.{Refusal}
use Rattle.line.specs.declared.refusal.Refusal.TheVariants as refusal
use Rattle.line.specs.declared.refusal.SessionFault.TheVariants as session
use Rattle.line.proofs.Lines.{read_next, read_stop, read_done}
use Rattle.line.proofs.Wholes.{answers_by, answers_by_lem}

-- ---- the answers, by what stands at a place

module _ (m : Meaning) (card line : List ℕ) (at : ℕ) (s : State) where
  abbrev of_reading : Reading → List ℕ
  of_reading r = answers_bytes (answers_to m card r.commands r.end (length line) s)

  pub from_next :
      (o : Order) →
      first (drop at line) ≡ Ok o →
      answers_from m card line at s
      ≡ answers_bytes (replies at (obeyed m card o s).0) ++ answers_from m card line (at + width o) (obeyed m card o s).1
  unfolding answers_from answers_to
  from_next o h =
      ap of_reading (read_next line at o h)
      ∙ flat_map-append answer_bytes (replies at (obeyed m card o s).0)
      (answers_to m card (read_at line (at + width o)).commands (read_at line (at + width o)).end (length line) (obeyed m card o s).1)

  pub from_stop :
      (f : LineFault) →
      at < length line →
      first (drop at line) ≡ Err f →
      answers_from m card line at s ≡ answers_bytes (replies at (Err (refusal.Line f)))
  unfolding answers_from answers_to
  from_stop f l h = ap of_reading (read_stop line at f l h)

  pub from_end : length line ≤ at → answers_from m card line at s ≡ answers_bytes (replies (length line) (finished s.job))
  unfolding answers_from answers_to
  from_end l = ap of_reading (read_done line at l)

module _ (card line : List ℕ) (at : ℕ) (s : State) where
  abbrev of_first : Reading → List ℕ
  of_first r = answers_bytes (answers_before card r.commands r.end (length line) s)

  abbrev by_choice : Option FamilyName → Reading → List ℕ
  by_choice c r = answers_bytes (answers_by c card at r.commands r.end (length line) s (answers_before card r.commands r.end (length line) s))

  before_next : (o : Order) → first (drop at line) ≡ Ok o → unchosen_from card line at s ≡ by_choice (chosen o) (read_at line (at + width o))
  unfolding unchosen_from
  before_next o h =
      let rest = read_at line (at + width o) in
      ap of_first (read_next line at o h)
      ∙ ap answers_bytes (answers_by_lem card (record { place = at; order = o }) rest.commands rest.end (length line) s)

  pub before_end : length line ≤ at → unchosen_from card line at s ≡ []
  unfolding unchosen_from answers_before
  before_end l = ap of_first (read_done line at l)

  by_chosen :
      (c : Option FamilyName) (f : FamilyName) (r : Reading) →
      ok_or c (refusal.Session session.Choice) ≡ Ok f →
      by_choice c r ≡ answers_bytes (answers_to (meaning_of f) card r.commands r.end (length line) s)
  by_chosen (Some g) f r h = let same : g ≡ f = cc in ap (λ x. by_choice (Some x) r) same
  by_chosen None f r h = cc

  by_refused :
      (c : Option FamilyName) (q : Refusal) (r : Reading) →
      ok_or c (refusal.Session session.Choice) ≡ Err q →
      by_choice c r ≡ answers_bytes (replies at (Err q)) ++ of_first r
  by_refused (Some g) q r h = cc
  by_refused None q r h = let same : refusal.Session session.Choice ≡ q = cc in ap (λ x. answers_bytes (replies at (Err x)) ++ of_first r) same

  -- a choice leaves what follows to the family
  pub at_choice :
      (x : Result Order LineFault) (f : FamilyName) →
      first (drop at line) ≡ x →
      choice_of x ≡ Ok f →
      unchosen_from card line at s ≡ answers_from (meaning_of f) card line (past x at (length line)) s
  unfolding answers_from
  at_choice (Ok o) f e h = before_next o e ∙ by_chosen (chosen o) f (read_at line (at + width o)) h
  at_choice (Err g) f e h = cc

module _ (card line : List ℕ) (at : ℕ) (s : State) where
  -- anything else is refused
  pub at_refusal :
      (x : Result Order LineFault) (q : Refusal) →
      at < length line →
      first (drop at line) ≡ x →
      choice_of x ≡ Err q →
      unchosen_from card line at s ≡ answers_bytes (replies at (Err q)) ++ unchosen_from card line (past x at (length line)) s
  unfolding unchosen_from answers_before
  at_refusal (Ok o) q l e h = before_next card line at s o e ∙ by_refused card line at s (chosen o) q (read_at line (at + width o)) h
  at_refusal (Err g) q l e h =
      let same : refusal.Line g ≡ q = cc in
      ap (of_first card line at s) (read_stop line at g l e) ∙ ap (λ x. answers_bytes (replies at (Err x))) same
      ∙ sym (ap (λ xs. answers_bytes (replies at (Err q)) ++ xs) (before_end card line (length line) s (omega arith)))

-- ---- the room

answer_short : (a : Answer) → length (answer_bytes a) ≤ 13
answer_short (Sealed number tag) = omega arith
answer_short (Struck number) = omega arith
answer_short (Accepted number) = omega arith
answer_short (Refused r place) = omega arith

pub reply_short : (place : ℕ) (r : Reply) → length (answers_bytes (replies place r)) ≤ 13
reply_short place (Ok None) = omega arith
reply_short place (Ok (Some a)) = let h = answer_short a in let e = length-append (answer_bytes a) [] in omega arith
reply_short place (Err e) = omega arith

-- what the end of the line may still answer
abbrev pub owes : Option Job → ℕ
owes None = 0
owes (Some job) = 7

owes_few : (job : Option Job) → owes job ≤ 7
owes_few None = omega arith
owes_few (Some job) = omega arith

seal_ends : (modulus root : ℕ) (r : Result Pad TakeError) (office : Office) (s : State) → s.job ≡ None → (seals_with modulus root r office s).1.job ≡ None
seal_ends modulus root (Err e) office s h = h
seal_ends modulus root (Ok pad) office s h = h

strike_keeps : (r : Result Pad TakeError) (office : Office) (s : State) → (strikes_with r office s).1.job ≡ s.job
strike_keeps (Err e) office s = refl
strike_keeps (Ok pad) office s = refl

module _ (m : Meaning) (card : List ℕ) (place : ℕ) where
  abbrev Room : Reply × State → State → ℕ → Type 0
  Room x s w = length (answers_bytes (replies place x.0)) + owes x.1.job ≤ owes s.job + 13 * w

  -- an answer of any command with two bytes or more fits
  room_of : (x : Reply × State) (s : State) (w : ℕ) → 2 ≤ w → Room x s w
  room_of x s w h = omega (arith, reply_short place x.0, owes_few x.1.job)

  seal_room : (job : Option Job) (s : State) → s.job ≡ job → Room (seals_by m card job s) s 1
  seal_room None s e = let z = ap owes e in omega arith
  seal_room (Some job) s e =
      let x = seals_by m card (Some job) s in
      let h = reply_short place x.0 in
      let z : owes x.1.job ≡ 0 =
      ap owes (seal_ends m.modulus (root_tag m card job) (taken s.books.office).0 (taken s.books.office).1 (with_job None s) refl)
      in
      omega arith

  strike_room : (s : State) → Room (obeyed m card strike_pad s) s 1
  strike_room s =
      let x = obeyed m card strike_pad s in
      let h = reply_short place x.0 in
      let z : owes x.1.job ≡ owes s.job = ap owes (strike_keeps (taken s.books.office).0 (taken s.books.office).1 s) in
      omega arith

  pub room : (o : Order) (s : State) → Room (obeyed m card o s) s (width o)
  room (choose family) s = room_of (obeyed m card (choose family) s) s 2 (omega arith)
  room (open_job label) s = room_of (obeyed m card (open_job label) s) s 5 (omega arith)
  room (feed_byte byte) s = room_of (obeyed m card (feed_byte byte) s) s 2 (omega arith)
  room (feed_block bytes) s = room_of (obeyed m card (feed_block bytes) s) s 17 (omega arith)
  room seal_job s = seal_room s.job s refl
  room strike_pad s = strike_room s
  room (check_job number tag) s = room_of (obeyed m card (check_job number tag) s) s 13 (omega arith)
