-- Commands in bytes: written and read again, and read and written again.
use Rattle.std.proofs.Common.{◌≡◌, ℕ, suc, ◌^◌, ◌<◌, true, eqb, List, [], ◌∷◌, ◌++◌, length, take, drop, Ok, Result, sym, refl, ap, ◌∙◌, subst, arith, length-append, length-drop, take-append-drop, length-take}
use Rattle.jobs.specs.Reading.{Bytes}
use Rattle.std.proofs.ByRecursion.{All-take, All-drop}
use Rattle.std.proofs.lemmas.List.{take_at}
use Rattle.std.proofs.lemmas.Bool.{cond-true, le-leb, eqb-true}
use Rattle.line.specs.Bytes.{bytes_of, number_of}
use Rattle.line.specs.Commands.{Order, encoded, width, begun, operands}
use Rattle.line.specs.Commands.Order.{choose, open_job, feed_byte, feed_block, seal_job, strike_pad, check_job}
use Rattle.line.specs.Laws.{Fitting, WrittenRead, ReadWritten}
use Rattle.line.specs.declared.refusal.LineFault.{LineFault}
use Rattle.line.proofs.Digits.{length-bytes, number_bytes, number_at}
use Rattle.line.proofs.Lines.{by_cases, operands_read}

-- ---- written and read again

operands_front :
    {X : Type 0} (n : ℕ) (xs more : List ℕ) (make : List ℕ → X) →
    length xs ≡ n →
    operands n (xs ++ more) make ≡ Ok (make xs)
operands_front n xs more make long =
    cond-true _ _ _ (le-leb n (length (xs ++ more)) (omega (arith, length-append xs more))) ∙ ap (λ ys. Ok (make ys)) (take_at xs more n long)

number_written : (n v : ℕ) (more : List ℕ) (make : ℕ → Order) → v < 256 ^ n → operands n (bytes_of n v ++ more) (λ xs. make (number_of xs)) ≡ Ok (make v)
number_written n v more make h =
    operands_front n (bytes_of n v) more (λ xs. make (number_of xs)) (length-bytes n v) ∙ ap (λ x. Ok (make x)) (number_bytes n v h)

check_written :
    (number tag : ℕ) (more : List ℕ) →
    number < 2 ^ 32 →
    tag < 2 ^ 64 →
    operands 12 ((bytes_of 4 number ++ bytes_of 8 tag) ++ more) (λ xs. check_job (number_of (take 4 xs)) (number_of (drop 4 xs)))
    ≡ Ok (check_job number tag)
check_written number tag more h h' =
    operands_front 12 (bytes_of 4 number ++ bytes_of 8 tag) more (λ xs. check_job (number_of (take 4 xs)) (number_of (drop 4 xs))) refl
    ∙ ap (λ x. Ok (check_job x (number_of (bytes_of 8 tag)))) (number_bytes 4 number h)
    ∙ ap (λ x. Ok (check_job number x)) (number_bytes 8 tag h')

pub written_read : WrittenRead
written_read (choose family) h more = number_written 1 family more choose h
written_read (open_job label) h more = number_written 4 label more open_job h
written_read (feed_byte byte) h more = number_written 1 byte more feed_byte h
written_read (feed_block bytes) h more = operands_front 16 bytes more feed_block h.0
written_read seal_job h more = refl
written_read strike_pad h more = refl
written_read (check_job number tag) h more = check_written number tag more h.0 h.1

pub width-encoded : (o : Order) → Fitting o → length (encoded o) ≡ width o
width-encoded (choose family) h = refl
width-encoded (open_job label) h = refl
width-encoded (feed_byte byte) h = refl
width-encoded (feed_block bytes) h = ap suc h.0
width-encoded seal_job h = refl
width-encoded strike_pad h = refl
width-encoded (check_job number tag) h = refl

-- ---- read and written again

-- what is to be shown of a command that was read from a byte and the rest
abbrev Back : ℕ → List ℕ → Order → Type 0
Back byte rest o = Fitting o × (take (width o) (byte ∷ rest) ≡ encoded o)

number_read :
    (n byte : ℕ) (rest : List ℕ) (make : ℕ → Order) (o : Order) →
    Bytes rest →
    ((v : ℕ) → v < 256 ^ n → Fitting (make v)) →
    ((v : ℕ) → width (make v) ≡ suc n) →
    ((v : ℕ) → encoded (make v) ≡ byte ∷ bytes_of n v) →
    operands n rest (λ xs. make (number_of xs)) ≡ Ok o →
    Back byte rest o
number_read n byte rest make o bytes proper wide code h =
    let r = operands_read n rest (λ xs. make (number_of xs)) o h in
    let v = number_at n (take n rest) (All-take (λ b. b < 256) n rest bytes) r.0 in
    subst (Back byte rest) r.1 (
      proper _ v.0,
      ap (λ k. take k (byte ∷ rest)) (wide _) ∙ ap (λ ys. byte ∷ ys) (sym v.1) ∙ sym (code _),
    )

block_read : (rest : List ℕ) (o : Order) → Bytes rest → operands 16 rest feed_block ≡ Ok o → Back 0x51 rest o
block_read rest o bytes h =
    let r = operands_read 16 rest feed_block o h in
    subst (Back 0x51 rest) r.1 ((r.0, All-take (λ b. b < 256) 16 rest bytes), refl)

check_read :
    (rest : List ℕ) (o : Order) →
    Bytes rest →
    operands 12 rest (λ xs. check_job (number_of (take 4 xs)) (number_of (drop 4 xs))) ≡ Ok o →
    Back 0x43 rest o
check_read rest o bytes h =
    let r = operands_read 12 rest (λ xs. check_job (number_of (take 4 xs)) (number_of (drop 4 xs))) o h in
    let xs = take 12 rest in
    let all = All-take (λ b. b < 256) 12 rest bytes in
    let low = number_at 4 (take 4 xs) (All-take (λ b. b < 256) 4 xs all) (omega (arith, length-take 4 xs, r.0)) in
    let high = number_at 8 (drop 4 xs) (All-drop (λ b. b < 256) 4 xs all) (omega (arith, length-drop 4 xs, r.0)) in
    subst (Back 0x43 rest) r.1 (
      (low.0, high.0),
      ap (λ ys. 0x43 ∷ ys)
          (sym
          (ap (λ ys. ys ++ bytes_of 8 (number_of (drop 4 xs))) low.1
          ∙ ap (λ ys. take 4 xs ++ ys) high.1
          ∙ take-append-drop 4 xs)),
    )

one_read : (byte : ℕ) (rest : List ℕ) (p o : Order) → Back byte rest p → ◌≡◌ {A = Result Order LineFault} (Ok p) (Ok o) → Back byte rest o
one_read byte rest p o b h = let same : p ≡ o = cc in subst (Back byte rest) same b

begun_back : (byte : ℕ) (rest : List ℕ) → Bytes rest → (o : Order) → begun byte rest ≡ Ok o → Back byte rest o
begun_back byte rest bytes o h =
    let P : Type 0 = Back byte rest o in
    let at : (k : ℕ) → eqb byte k ≡ true → Back k rest o → P = λ k t b. subst (λ x. Back x rest o) (sym (eqb-true byte k t)) b in
    by_cases (eqb byte 0x46) P
    (λ t e. at 0x46 t (number_read 1 0x46 rest choose o bytes (λ v l. l) (λ v. refl) (λ v. refl) e))
    (λ _. by_cases (eqb byte 0x4f) P
    (λ t e. at 0x4f t (number_read 4 0x4f rest open_job o bytes (λ v l. l) (λ v. refl) (λ v. refl) e))
    (λ _. by_cases (eqb byte 0x42) P
    (λ t e. at 0x42 t (number_read 1 0x42 rest feed_byte o bytes (λ v l. l) (λ v. refl) (λ v. refl) e))
    (λ _. by_cases (eqb byte 0x51) P (λ t e. at 0x51 t (block_read rest o bytes e))
    (λ _. by_cases (eqb byte 0x5a) P (λ t e. at 0x5a t (one_read 0x5a rest seal_job o (tt, refl) e))
    (λ _. by_cases (eqb byte 0x58) P (λ t e. at 0x58 t (one_read 0x58 rest strike_pad o (tt, refl) e))
    (λ _. by_cases (eqb byte 0x43) P (λ t e. at 0x43 t (check_read rest o bytes e)) (λ _ e. cc)))))))
    h

pub read_written : ReadWritten
read_written [] bytes o h = cc
read_written (byte ∷ rest) bytes o h = begun_back byte rest bytes.1 o h
