-- What a job stands for, from one call to the next.
use Rattle.std.proofs.Common.{◌≡◌, ℕ, ◌+◌, ◌<◌, ◌≤◌, List, ◌++◌, length, get_or, drop, sym, ap, ◌∙◌, subst, append_assoc, arith, length-append, w8, Fits}
use native.Mathlib.Decide.{dec_lt}
use Rattle.std.proofs.ByRecursion.{All-append, All-from_get_or}
use Rattle.families.specs.Meanings.{Meaning}
use Rattle.families.specs.declared.family.Family.{Ghosts}
use Rattle.jobs.specs.Reading.{Bytes}
use Rattle.jobs.specs.Roots.{Job, root_tag, root_words, top_tag}
use Rattle.jobs.specs.Holding.{StreamHolds}
use Rattle.jobs.specs.Jobs.{Holds, fed}
use Rattle.jobs.specs.declared.state.OpenJob.{OpenJob}

-- what a slice of `u8` holds is bytes
pub bytes_typed : (xs : List ℕ) → ((i : ℕ) → Fits w8 (get_or xs i 0)) → Bytes xs
bytes_typed xs typed = All-from_get_or (λ x. x < 256) xs 0 (λ i _. (typed i).fits)

module _ {F : Type 0} {G : Ghosts F} (m : Meaning) (o : OpenJob F G) where
  pub taken : (o' : OpenJob F G) (piece : List ℕ) → Bytes piece → o'.card ≡ o.card → o'.label ≡ o.label → o'.length ≡ o.length + length piece
      → (0 < length o.stream.block + length piece → 0 < length o'.stream.block)
      → ((doc : List ℕ) → StreamHolds m o.card o.stream doc → StreamHolds m o.card o'.stream (doc ++ piece))
      → (card : List ℕ) (job : Job) → Holds m card job o → Holds m card (fed job piece) o'
  taken o' piece bytes cards labels long waits holds card job h =
      let doc = job.document in
      let n = length-append doc piece in
      let l = h.long in
      let most = o'.small in record {
        keyed = h.keyed;
        proper = record { label_word = h.proper.label_word; bytes = All-append (λ b. b < 256) doc piece h.proper.bytes bytes; long = omega arith };
        on = cards ∙ h.on;
        under = labels ∙ h.under;
        long = omega arith;
        waits = λ p. waits (elim (dec_lt 0 (length doc)) [ yes q ↦ let w = h.waits q in omega arith | no q ↦ omega arith ]);
        stream = subst (λ ks. StreamHolds m ks o'.stream (doc ++ piece)) h.on (holds doc (subst (λ ks. StreamHolds m ks o.stream doc) (sym h.on) h.stream));
      }

  pub rooted : (tag root : ℕ) → root ≡ m.tag (drop 160 o.card) (root_words tag o.length o.label)
      → ((doc : List ℕ) → StreamHolds m o.card o.stream doc → (0 < length doc → 0 < length o.stream.block) → length doc ≤ 8388608 → tag ≡ top_tag m o.card doc)
      → (card : List ℕ) (job : Job) → Holds m card job o → root ≡ root_tag m card job
  rooted tag root e close card job h =
      let doc = job.document in
      e
      ∙ ap (λ ks. m.tag (drop 160 ks) (root_words tag o.length o.label)) h.on
      ∙ ap (λ l. m.tag (drop 160 card) (root_words tag o.length l)) h.under
      ∙ ap (λ n. m.tag (drop 160 card) (root_words tag n job.label)) h.long
      ∙ ap (λ u. m.tag (drop 160 card) (root_words u (length doc) job.label)) (close doc (subst (λ ks. StreamHolds m ks o.stream doc) (sym h.on) h.stream) h.waits h.proper.long ∙ ap (λ ks. top_tag m ks doc) h.on)

-- two pieces, one behind the other
pub fed_twice : (job : Job) (first second : List ℕ) → fed (fed job first) second ≡ fed job (first ++ second)
fed_twice job first second = ap (λ doc. record { label = job.label; document = doc }) (append_assoc job.document first second)
