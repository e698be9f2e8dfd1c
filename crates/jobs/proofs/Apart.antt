-- Different jobs have different root lists or different words at level 1, and level 5 gives one tag.
use Rattle.std.proofs.Common.{◌≡◌, ℕ, zero, suc, ◌-◌, ◌*◌, ◌/◌, ◌^◌, ◌<◌, ◌≤◌, min, ◌≢◌, ◌⊎◌, List, ◌++◌, map, length, get_or, take, drop, sym, refl, ap, ◌∙◌, inl, inr, mod-lt, pow-suc, mul-suc, arith}
use native.Mathlib.Nat.{div-add-mod}
use Rattle.std.specs.List.{AllByRecursion}
use Rattle.std.proofs.ByRecursion.{All-take, All-drop}
use Rattle.std.proofs.lemmas.List.{length-map, length-take, length-drop, take-append-drop, nil_from_length}
use Rattle.std.proofs.lemmas.Bool.{cases_eq}
use Rattle.families.specs.Meanings.{Meaning}
use Rattle.jobs.specs.Cutting.{cut, blocks}
use Rattle.jobs.specs.Reading.{byte_words, tags_words}
use Rattle.jobs.specs.Roots.{Job, block_tag, first_words, next_words, climb, level_tags, root_list}
use Rattle.jobs.specs.Laws.{OneTop, JobsApart}
use Rattle.jobs.proofs.Reading.{byte_words_same}

pub length_cut : {X : Type 0} (n c : ℕ) (xs : List X) → length (cut n c xs) ≡ c
length_cut n zero xs = refl
length_cut n (suc c) xs = ap suc (length_cut n c (drop n xs))

pub length-next : (m : Meaning) (ks ts : List ℕ) → length (map (block_tag m ks) (next_words ts)) ≡ suc ((length ts - 1) / 16)
unfolding next_words
length-next m ks ts = length-map (next_words ts) (block_tag m ks) ∙ length-map (blocks 16 ts) tags_words ∙ length_cut 16 (suc ((length ts - 1) / 16)) ts

climb_one : (m : Meaning) (n : ℕ) (ks ts : List ℕ) → 0 < length ts → length ts ≤ 16 ^ n → length (climb m n ks ts) ≡ 1
climb_one m zero ks ts some few = omega arith
climb_one m (suc n) ks ts some few =
    let l = length-next m ks ts in
    let e = pow-suc 16 n in
    climb_one m n (drop 32 ks) (map (block_tag m ks) (next_words ts)) (omega arith) (omega arith)

pub one_top : (m : Meaning) → OneTop m
unfolding level_tags first_words
one_top m card job proper =
    let doc = job.document in
    let l : length (map (block_tag m card) (first_words doc)) ≡ suc ((length doc - 1) / 128)
    = length-map (first_words doc) (block_tag m card) ∙ length-map (blocks 128 doc) byte_words ∙ length_cut 128 (suc ((length doc - 1) / 128)) doc in
    let most = proper.long in
    climb_one m 4 (drop 32 card) (map (block_tag m card) (first_words doc)) (omega arith) (omega arith)

-- lists that are cut into as many blocks of the same words are the same, where blocks of one length are
pub cut_same : (P : ℕ → Type 0) (f : List ℕ → List ℕ) → ((bs cs : List ℕ) → AllByRecursion P bs → AllByRecursion P cs → length bs ≡ length cs → f bs ≡ f cs → bs ≡ cs)
    → (n c : ℕ) (bs cs : List ℕ) → AllByRecursion P bs → AllByRecursion P cs → length bs ≡ length cs → length bs ≤ n * c → map f (cut n c bs) ≡ map f (cut n c cs) → bs ≡ cs
cut_same P f same n zero bs cs ok ok' long few e =
    let z : length bs ≡ 0 = omega arith in
    nil_from_length bs z ∙ sym (nil_from_length cs (sym long ∙ z))
cut_same P f same n (suc c) bs cs ok ok' long few e =
    let m = mul-suc n c in
    let lt = length-take n bs in
    let lt' = length-take n cs in
    let ld = length-drop n bs in
    let ld' = length-drop n cs in
    let heads : f (take n bs) ≡ f (take n cs) = cc in
    let tails : map f (cut n c (drop n bs)) ≡ map f (cut n c (drop n cs)) = cc in
    let front : take n bs ≡ take n cs = same (take n bs) (take n cs) (All-take P n bs ok) (All-take P n cs ok') (lt ∙ ap (min n) long ∙ sym lt') heads in
    let back : drop n bs ≡ drop n cs = cut_same P f same n c (drop n bs) (drop n cs) (All-drop P n bs ok) (All-drop P n cs ok') (omega arith) (omega arith) tails in
    sym (take-append-drop n bs) ∙ ap (λ xs. xs ++ drop n bs) front ∙ ap (λ xs. take n cs ++ xs) back ∙ take-append-drop n cs

-- the same of all blocks, of n items each
pub blocks_same : (P : ℕ → Type 0) (f : List ℕ → List ℕ) → ((bs cs : List ℕ) → AllByRecursion P bs → AllByRecursion P cs → length bs ≡ length cs → f bs ≡ f cs → bs ≡ cs)
    → (n : ℕ) (bs cs : List ℕ) → 0 < n → AllByRecursion P bs → AllByRecursion P cs → length bs ≡ length cs → map f (blocks n bs) ≡ map f (blocks n cs) → bs ≡ cs
blocks_same P f same n bs cs pos ok ok' long e =
    let k = (length bs - 1) / n in
    let count : suc ((length cs - 1) / n) ≡ suc k = ap (λ l. suc ((l - 1) / n)) (sym long) in
    let d = div-add-mod (length bs - 1) n in
    let l = mod-lt (length bs - 1) pos in
    let m = mul-suc n k in
    cut_same P f same n (suc k) bs cs ok ok' long (omega arith) (e ∙ ap (λ c. map f (cut n c cs)) count)

same_jobs : (a b : Job) → a.label ≡ b.label → a.document ≡ b.document → a ≡ b
same_jobs a b s d = ap (λ l. make l a.document) s ∙ ap (make b.label) d
  where
    make : ℕ → List ℕ → Job
    make l d = record { label = l; document = d }

pub jobs_apart : (m : Meaning) → JobsApart m
unfolding first_words
jobs_apart m card a b pa pb ne = go (cases_eq a.label b.label) (cases_eq (length a.document) (length b.document))
  where
    go : (a.label ≡ b.label) ⊎ (a.label ≡ b.label → ⊥) → (length a.document ≡ length b.document) ⊎ (length a.document ≡ length b.document → ⊥)
        → (root_list m card a ≢ root_list m card b) ⊎ (first_words a.document ≢ first_words b.document)
    go (inr d) l = inl (λ e. d (ap (λ ws. get_or ws 3 0) e))
    go (inl s) (inr d) = inl (λ e. d (ap (λ ws. get_or ws 2 0) e))
    go (inl s) (inl l) = inr (λ e. ne (same_jobs a b s (blocks_same (λ x. x < 256) byte_words byte_words_same 128 a.document b.document (omega arith) pa.bytes pb.bytes l e)))
