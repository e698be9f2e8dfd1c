-- What a line grants is a run of the two books.
use Rattle.std.proofs.ByRecursion.{All-drop}
use Rattle.std.proofs.Common.{◌≡◌, ℕ, zero, suc, ◌+◌, ◌^◌, ◌<◌, Bool, true, false, cond, leb, List, [], ◌∷◌, ◌++◌, length, drop, Some, None, Ok, Err, Option, Result, sym, refl, ap, ◌∙◌, subst, arith, length-append}
use Rattle.families.specs.Meanings.{Meaning}
use Rattle.jobs.specs.Jobs.{feed_answer}
use Rattle.jobs.specs.Reading.{Bytes}
use Rattle.jobs.specs.Roots.{Job, Proper, root_tag}
use Rattle.jobs.specs.declared.open_job.TooLong.{TooLong}
use Rattle.std.proofs.lemmas.Bool.{leb-true}
use Rattle.std.proofs.ByRecursion.{All-append}
use Rattle.std.specs.List.{flat_map, AllByRecursion}
use Rattle.std.specs.Result.{result_map_both}
use Rattle.books.specs.Office.{Office, taken, sealed, struck}
use Rattle.books.specs.Runs.{Books, Event, Run}
use Rattle.books.specs.Runs.Event.{seal, strike, check}
use Rattle.books.specs.Table.{checked}
use Rattle.books.specs.declared.pad.Pad.{Pad}
use Rattle.books.specs.declared.refusals.CheckError.{CheckError}
use Rattle.books.specs.declared.refusals.TakeError.{TakeError}
use Rattle.books.specs.declared.refusals.WrongPad.{WrongPad}
use Rattle.line.specs.Commands.{Order, Placed, End, Reading, width, first, read_from}
use Rattle.line.specs.Commands.Order.{choose, open_job, feed_byte, feed_block, seal_job, strike_pad, check_job}
use Rattle.line.specs.Commands.End.{all_read, stopped}
use Rattle.line.specs.Faults.{check_refusal}
use Rattle.line.specs.Grants.{seal_calls, strike_calls, seal_calls_of, check_calls_of, calls, calls_to, granted_by, grants}
use Rattle.line.specs.Laws.{Fitting}
use Rattle.line.specs.Sessions.{State, Reply, obeyed, replies, finished, ended, answers_to, opens_by, feeds_by, feeds_job, seals_by, seals_with, strikes_with, checks_by, with_job}
use Rattle.line.specs.declared.answer.Answer.TheVariants.{Sealed, Struck, Accepted}
use Rattle.line.specs.declared.refusal.LineFault.{LineFault}
use Rattle.line.specs.declared.refusal.Refusal.TheVariants as refusal
use Rattle.line.specs.declared.refusal.BookFault.TheVariants as book
use Rattle.line.proofs.Codes.{read_written}
use Rattle.std.proofs.lemmas.Grind.{flat_map-append}
use Rattle.line.proofs.Lines.{read_by, read_some}

-- ---- the commands of a line fit their widths

abbrev pub Fit : List Placed → Type 0
Fit ps = AllByRecursion (λ p. Fitting p.order) ps

fit_by :
    (n place byte : ℕ) (bs : List ℕ) →
    ((place : ℕ) (xs : List ℕ) → Bytes xs → Fit (read_from n place xs).commands) →
    Bytes (byte ∷ bs) →
    (r : Result Order LineFault) →
    first (byte ∷ bs) ≡ r →
    Fit (read_by r n place (byte ∷ bs)).commands
fit_by n place byte bs again bytes (Err f) e = tt
fit_by n place byte bs again bytes (Ok o) e =
    ((read_written (byte ∷ bs) bytes o e).0, again (place + width o) (drop (width o) (byte ∷ bs)) (All-drop (λ b. b < 256) (width o) (byte ∷ bs) bytes))

none_fit : (n place : ℕ) → Fit (read_from n place []).commands
unfolding read_from
none_fit zero place = tt
none_fit (suc n) place = tt

zero_fit : (place : ℕ) (xs : List ℕ) → Fit (read_from zero place xs).commands
unfolding read_from
zero_fit place xs = tt

pub commands_fit : (n place : ℕ) (line : List ℕ) → Bytes line → Fit (read_from n place line).commands
commands_fit n place [] bytes = none_fit n place
commands_fit zero place (byte ∷ bs) bytes = zero_fit place (byte ∷ bs)
commands_fit (suc n) place (byte ∷ bs) bytes =
    subst (λ (r : Reading). Fit r.commands) (sym (read_some n place byte bs))
    (fit_by n place byte bs (commands_fit n) bytes (first (byte ∷ bs)) refl)

-- ---- the open job is proper

abbrev pub JobProper : Option Job → Type 0
JobProper None = Unit {0}
JobProper (Some job) = Proper job

opens_proper : (job : Option Job) (label : ℕ) (s : State) → s.job ≡ job → label < 2 ^ 32 → JobProper job → JobProper (opens_by job label s).1.job
opens_proper None label s e l h = record { label_word = l; bytes = tt; long = omega arith }
opens_proper (Some job) label s e l h = subst JobProper (sym e) h

feeds_proper :
    (t : Bool) (job : Job) (piece : List ℕ) (s : State) →
    leb (length job.document + length piece) 8388608 ≡ t →
    s.job ≡ Some job →
    Proper job →
    Bytes piece →
    JobProper (feeds_job (cond t (Ok tt) (Err (record {}))) job piece s).1.job
feeds_proper true job piece s e h proper bytes =
    record {
      label_word = proper.label_word;
      bytes = All-append (λ b. b < 256) job.document piece proper.bytes bytes;
      long =
          let few = leb-true (length job.document + length piece) 8388608 e in
          let n = length-append job.document piece in
          omega arith;
    }
feeds_proper false job piece s e h proper bytes = subst JobProper (sym h) proper

feed_proper : (job : Option Job) (piece : List ℕ) (s : State) → s.job ≡ job → JobProper job → Bytes piece → JobProper (feeds_by job piece s).1.job
feed_proper None piece s e h bytes = subst JobProper (sym e) tt
feed_proper (Some job) piece s e h bytes = feeds_proper (leb (length job.document + length piece) 8388608) job piece s refl e h bytes

seals_proper : (modulus root : ℕ) (r : Result Pad TakeError) (office : Office) (s : State) → s.job ≡ None → JobProper (seals_with modulus root r office s).1.job
seals_proper modulus root (Err e) office s h = subst JobProper (sym h) tt
seals_proper modulus root (Ok pad) office s h = subst JobProper (sym h) tt

seal_proper : (m : Meaning) (card : List ℕ) (job : Option Job) (s : State) → s.job ≡ job → JobProper (seals_by m card job s).1.job
seal_proper m card None s e = subst JobProper (sym e) tt
seal_proper m card (Some job) s e =
    seals_proper m.modulus (root_tag m card job) (taken s.books.office).0 (taken s.books.office).1 (with_job None s) refl

strikes_proper : (r : Result Pad TakeError) (office : Office) (s : State) → JobProper s.job → JobProper (strikes_with r office s).1.job
strikes_proper (Err e) office s h = h
strikes_proper (Ok pad) office s h = h

check_proper : (m : Meaning) (card : List ℕ) (job : Option Job) (number tag : ℕ) (s : State) → s.job ≡ job → JobProper (checks_by m card job number tag s).1.job
check_proper m card None number tag s e = subst JobProper (sym e) tt
check_proper m card (Some job) number tag s e = tt

obeyed_proper : (m : Meaning) (card : List ℕ) (o : Order) (s : State) → Fitting o → JobProper s.job → JobProper (obeyed m card o s).1.job
obeyed_proper m card (choose family) s f h = h
obeyed_proper m card (open_job label) s f h = opens_proper s.job label s refl f h
obeyed_proper m card (feed_byte byte) s f h = feed_proper s.job (byte ∷ []) s refl h (f, tt)
obeyed_proper m card (feed_block bytes) s f h = feed_proper s.job bytes s refl h f.1
obeyed_proper m card seal_job s f h = seal_proper m card s.job s refl
obeyed_proper m card strike_pad s f h = strikes_proper (taken s.books.office).0 (taken s.books.office).1 s h
obeyed_proper m card (check_job number tag) s f h = check_proper m card s.job number tag s refl

-- ---- the calls of a command are a run

module _ (modulus : ℕ) (root : Job → ℕ) where
  pub run-append : (es fs : List Event) (b c d : Books) → Run modulus root b es c → Run modulus root c fs d → Run modulus root b (es ++ fs) d
  run-append [] fs b c d r t = subst (λ (x : Books). Run modulus root x fs d) r t
  run-append (e ∷ es) fs b c d r t = (r.0, r.1, run-append es fs r.0 c d r.2 t)

  abbrev with_office' : Office → Books → Books
  with_office' office b = record { office = office; table = b.table }

  seal_run :
      (job : Job) (b : Books) (s : State) (r : Result Pad TakeError) →
      Proper job →
      s.books ≡ b →
      r ≡ (taken b.office).0 →
      Run modulus root b (seal_calls modulus (root job) job r (taken b.office).1) (seals_with modulus (root job) r (taken b.office).1 s).1.books
  seal_run job b s (Err e) proper is h =
      (with_office' (taken b.office).1 b, (h, refl, refl), ap (λ (x : Books). with_office' (taken b.office).1 x) is)
  seal_run job b s (Ok pad) proper is h =
      let office : Office = (taken b.office).1 in
      let next : Office = (sealed modulus (root job) pad office).1 in (
        with_office' office b,
        (h, refl, refl),
        (with_office' next b, (refl, refl, refl, proper), ap (λ (x : Books). with_office' next x) is),
      )

  strike_run :
      (b : Books) (s : State) (r : Result Pad TakeError) →
      s.books ≡ b →
      r ≡ (taken b.office).0 →
      Run modulus root b (strike_calls r (taken b.office).1) (strikes_with r (taken b.office).1 s).1.books
  strike_run b s (Err e) is h =
      (with_office' (taken b.office).1 b, (h, refl, refl), ap (λ (x : Books). with_office' (taken b.office).1 x) is)
  strike_run b s (Ok pad) is h =
      let office : Office = (taken b.office).1 in
      let next : Office = (struck pad office).1 in (
        with_office' office b,
        (h, refl, refl),
        (with_office' next b, (refl, refl, refl), ap (λ (x : Books). with_office' next x) is),
      )

module _ (m : Meaning) (card : List ℕ) where
  abbrev Runs : Books → List Event → Books → Type 0
  Runs b es d = Run m.modulus (root_tag m card) b es d

  open_books : (job : Option Job) (label : ℕ) (s : State) → (opens_by job label s).1.books ≡ s.books
  open_books None label s = refl
  open_books (Some job) label s = refl

  fed_books : (r : Result (Unit {0}) TooLong) (job : Job) (piece : List ℕ) (s : State) → (feeds_job r job piece s).1.books ≡ s.books
  fed_books (Ok u) job piece s = refl
  fed_books (Err e) job piece s = refl

  feed_books : (job : Option Job) (piece : List ℕ) (s : State) → (feeds_by job piece s).1.books ≡ s.books
  feed_books None piece s = refl
  feed_books (Some job) piece s = fed_books (feed_answer (length job.document) (length piece)) job piece s

  seals_run : (job : Option Job) (s : State) → JobProper job → Runs s.books (seal_calls_of m card job s.books.office) (seals_by m card job s).1.books
  seals_run None s h = refl
  seals_run (Some job) s h = seal_run m.modulus (root_tag m card) job s.books (with_job None s) (taken s.books.office).0 h refl refl

  checks_run :
      (job : Option Job) (number tag : ℕ) (s : State) →
      JobProper job →
      Runs s.books (check_calls_of m card job number tag s) (checks_by m card job number tag s).1.books
  checks_run None number tag s h = refl
  checks_run (Some job) number tag s h = ((checks_by m card (Some job) number tag s).1.books, (refl, refl, refl, h), refl)

  obeyed_run : (o : Order) (s : State) → JobProper s.job → Runs s.books (calls m card o s) (obeyed m card o s).1.books
  obeyed_run (choose family) s h = refl
  obeyed_run (open_job label) s h = open_books s.job label s
  obeyed_run (feed_byte byte) s h = feed_books s.job (byte ∷ []) s
  obeyed_run (feed_block bytes) s h = feed_books s.job bytes s
  obeyed_run seal_job s h = seals_run s.job s h
  obeyed_run strike_pad s h = strike_run m.modulus (root_tag m card) s.books s (taken s.books.office).0 refl refl
  obeyed_run (check_job number tag) s h = checks_run s.job number tag s h

  -- ---- and it answers what they grant

  module _ (place : ℕ) where
    abbrev Same : Reply → List Event → Type 0
    Same r es = flat_map grants (replies place r) ≡ flat_map granted_by es

    open_same : (job : Option Job) (label : ℕ) (s : State) → Same (opens_by job label s).0 []
    open_same None label s = refl
    open_same (Some job) label s = refl

    fed_same : (r : Result (Unit {0}) TooLong) (job : Job) (piece : List ℕ) (s : State) → Same (feeds_job r job piece s).0 []
    fed_same (Ok u) job piece s = refl
    fed_same (Err e) job piece s = refl

    feed_same : (job : Option Job) (piece : List ℕ) (s : State) → Same (feeds_by job piece s).0 []
    feed_same None piece s = refl
    feed_same (Some job) piece s = fed_same (feed_answer (length job.document) (length piece)) job piece s

    sealed_same :
        (pad : Pad) (job : Job) (x : Result (ℕ × ℕ) WrongPad) →
        Same (result_map_both (λ x. Some (Sealed x.0 x.1)) (λ _. refusal.Book book.WrongPad) x) (seal pad job x ∷ [])
    sealed_same pad job (Ok x) = refl
    sealed_same pad job (Err e) = refl

    seals_same :
        (modulus root : ℕ) (job : Job) (r : Result Pad TakeError) (office : Office) (s : State) →
        Same (seals_with modulus root r office s).0 (seal_calls modulus root job r office)
    seals_same modulus root job (Err e) office s = refl
    seals_same modulus root job (Ok pad) office s = sealed_same pad job (sealed modulus root pad office).0

    seal_same : (job : Option Job) (s : State) → Same (seals_by m card job s).0 (seal_calls_of m card job s.books.office)
    seal_same None s = refl
    seal_same (Some job) s =
        seals_same m.modulus (root_tag m card job) job (taken s.books.office).0 (taken s.books.office).1 (with_job None s)

    struck_same :
        (pad : Pad) (x : Result (Unit {0}) WrongPad) →
        Same (result_map_both (λ _. Some (Struck pad.number)) (λ _. refusal.Book book.WrongPad) x) (strike pad x ∷ [])
    struck_same pad (Ok x) = refl
    struck_same pad (Err e) = refl

    strikes_same : (r : Result Pad TakeError) (office : Office) (s : State) → Same (strikes_with r office s).0 (strike_calls r office)
    strikes_same (Err e) office s = refl
    strikes_same (Ok pad) office s = struck_same pad (struck pad office).0

    checked_same :
        (job : Job) (number tag : ℕ) (x : Result (Unit {0}) CheckError) →
        Same (result_map_both (λ _. Some (Accepted number)) check_refusal x) (check job number tag x ∷ [])
    checked_same job number tag (Ok x) = refl
    checked_same job number tag (Err e) = refl

    check_same : (job : Option Job) (number tag : ℕ) (s : State) → Same (checks_by m card job number tag s).0 (check_calls_of m card job number tag s)
    check_same None number tag s = refl
    check_same (Some job) number tag s =
        checked_same job number tag (checked m.modulus (root_tag m card job) number tag s.books.table).0

    obeyed_same : (o : Order) (s : State) → Same (obeyed m card o s).0 (calls m card o s)
    obeyed_same (choose family) s = refl
    obeyed_same (open_job label) s = open_same s.job label s
    obeyed_same (feed_byte byte) s = feed_same s.job (byte ∷ []) s
    obeyed_same (feed_block bytes) s = feed_same s.job bytes s
    obeyed_same seal_job s = seal_same s.job s
    obeyed_same strike_pad s = strikes_same (taken s.books.office).0 (taken s.books.office).1 s
    obeyed_same (check_job number tag) s = check_same s.job number tag s

finish_same : (long : ℕ) (job : Option Job) → flat_map grants (replies long (finished job)) ≡ []
finish_same long None = refl
finish_same long (Some job) = refl

pub end_same : (end : End) (long : ℕ) (job : Option Job) → flat_map grants (ended end long job) ≡ []
end_same all_read long job = finish_same long job
end_same (stopped fault place) long job = refl

-- ---- a list of commands

module _ (m : Meaning) (card : List ℕ) where
  pub to_run : (ps : List Placed) (s : State) → Fit ps → JobProper s.job → (d : Books) × Run m.modulus (root_tag m card) s.books (calls_to m card ps s) d
  unfolding calls_to
  to_run [] s f h = (s.books, refl)
  to_run (p ∷ ps) s f h =
      let next : State = (obeyed m card p.order s).1 in
      let rest = to_run ps next f.1 (obeyed_proper m card p.order s f.0 h) in (
        rest.0,
        run-append m.modulus (root_tag m card) (calls m card p.order s) (calls_to m card ps next) s.books next.books rest.0
            (obeyed_run m card p.order s h) rest.1,
      )

  pub to_same : (ps : List Placed) (end : End) (long : ℕ) (s : State) → flat_map grants (answers_to m card ps end long s) ≡ flat_map granted_by (calls_to m card ps s)
  unfolding answers_to calls_to
  to_same [] end long s = end_same end long s.job
  to_same (p ∷ ps) end long s =
      let x : Reply × State = obeyed m card p.order s in
      flat_map-append grants (replies p.place x.0) (answers_to m card ps end long x.1)
      ∙ ap (λ xs. xs ++ flat_map grants (answers_to m card ps end long x.1)) (obeyed_same m card p.place p.order s)
      ∙ ap (λ xs. flat_map granted_by (calls m card p.order s) ++ xs) (to_same ps end long x.1)
      ∙ sym (flat_map-append granted_by (calls m card p.order s) (calls_to m card ps x.1))
