-- Lists that are found one after another.
use Rattle.std.proofs.lemmas.List.{map-append}
use Rattle.std.proofs.Common.{◌≡◌, Bool, ℕ, zero, suc, ◌+◌, ◌-◌, ◌<◌, List, [], ◌∷◌, ◌++◌, Result, Ok, Err, refl, sym, ap, ◌∙◌, add-one, append_assoc, append-nil, arith}
use Rattle.std.specs.Prelude.{pos, slice_get}
use Rattle.std.specs.Result.{IsErrAnd}
use Rattle.dis_file.specs.declared.types.TypeDesc.{TypeDesc}
use Rattle.dis_file.specs.References.{marks}
use Rattle.limbo_values.specs.declared.number.Kind.TheVariants.{Byte}
use Rattle.dis_meaning.specs.Words.{Word, Access, Found, Wrong, Raises, ◌>>=◌, or_wrong, type_check}
use Rattle.dis_meaning.specs.Numbers.{number_at}
use Rattle.dis_memory.specs.Copies.{taken_by, as_marked, typed_from, byte_of, bytes_from}
use Rattle.ref_heap.specs.declared.word.Word as code_word
use Rattle.dis_places.specs.declared.fault.Fault.{Fault}
use Rattle.dis_places.specs.declared.fault.Halt.{Halt}
use Rattle.dis_places.specs.declared.fault.Halt.TheVariants as halt
use Rattle.dis_places.specs.Words.{number_of, view_word, view_words, Gives}

module _ {T : Type 0} where
  -- Those of so many numbers, from one on.
  abbrev pub steps : (ℕ → Access T) → (k count : ℕ) → Access (List T)
  steps f k zero = Found []
  steps f k (suc n) = f k >>= λ v. steps f (suc k) n >>= λ vs. Found (v ∷ vs)

  -- These before the others.
  abbrev pub behind : List T → Access (List T) → Access (List T)
  behind vs a = a >>= λ ws. Found (vs ++ ws)

  -- What was found so far, and what is left, are all.
  abbrev pub Goes : (ℕ → Access T) → Access (List T) → List T → (count k : ℕ) → Type 0
  Goes f all vs count k = (n : ℕ) → k + n ≡ count → all ≡ behind vs (steps f k n)

  behind_none : (a : Access (List T)) → a ≡ behind [] a
  behind_none (Found vs) = refl
  behind_none (Wrong w) = refl
  behind_none (Raises t) = refl

  behind_more : (vs : List T) (v : T) (a : Access (List T)) → behind vs (a >>= λ ws. Found (v ∷ ws)) ≡ behind (vs ++ v ∷ []) a
  behind_more vs v (Found ws) = ap Found (sym (append_assoc vs (v ∷ []) ws))
  behind_more vs v (Wrong w) = refl
  behind_more vs v (Raises t) = refl

  module _ (f : ℕ → Access T) (all : Access (List T)) where
    pub goes : (count : ℕ) → all ≡ steps f 0 count → Goes f all [] count 0
    goes count e n same = e ∙ ap (steps f 0) (omega (arith, same)) ∙ behind_none (steps f 0 n)

    pub goes_on : (vs : List T) (v : T) (count k : ℕ) → Goes f all vs count k → f k ≡ Found v → Goes f all (vs ++ v ∷ []) count (k + 1)
    goes_on vs v count k so e n same =
        so (suc n) (omega (arith, same))
        ∙ ap (λ a. behind vs (a >>= λ v. steps f (suc k) n >>= λ ws. Found (v ∷ ws))) e
        ∙ behind_more vs v (steps f (suc k) n)
        ∙ ap (λ k. behind (vs ++ v ∷ []) (steps f k n)) (sym (add-one k))

    pub stops : (vs : List T) (w : ℕ) (count k : ℕ) → Goes f all vs count k → k < count → f k ≡ Wrong w → all ≡ Wrong w
    stops vs w count k so less e =
        so (suc (count - k - 1)) (omega (arith, less))
        ∙ ap (λ a. behind vs (a >>= λ v. steps f (suc k) (count - k - 1) >>= λ ws. Found (v ∷ ws))) e

    pub ends : (vs : List T) (count k : ℕ) → Goes f all vs count k → k ≡ count → all ≡ Found vs
    ends vs count k so same = so 0 (omega (arith, same)) ∙ ap Found (append-nil vs)

-- ---- what ends a call

pub faulted : {S T : Type 0} (see : S → T) (r : Result S Halt) (f : Fault) (a : Access T) → IsErrAnd r (λ h. h ≡ halt.Fault f) → a ≡ Wrong (number_of f) → Gives see r a
faulted see (Ok s) f a e w = absurd e
faulted see (Err halt.NoMemory) f a e w = tt
faulted see (Err (halt.Fault g)) f a e w = let same : g ≡ f = cc in w ∙ ap (λ f. Wrong (number_of f)) (sym same)
faulted see (Err (halt.Raises t)) f a e w = absurd cc

-- ---- words and bytes, one after another

pub view_more : (ws : List code_word.Word) (w : code_word.Word) → view_words (ws ++ w ∷ []) ≡ view_words ws ++ view_word w ∷ []
view_more ws w = map-append view_word ws (w ∷ [])

module _ (words : List Word) (from : ℕ) where
  abbrev pub nth_by : (Word → Access Word) → ℕ → Access Word
  nth_by kind k = or_wrong type_check (slice_get words (from + k)) >>= kind

  taken_more : (kind : Word → Access Word) (k n : ℕ) → taken_by (λ k w. kind w) words (from + k) n ≡ steps (nth_by kind) k n
  taken_more kind k zero = refl
  taken_more kind k (suc n) =
      go (or_wrong type_check (slice_get words (from + k))) (ap (λ m. taken_by (λ k w. kind w) words m n) (omega arith) ∙ taken_more kind (suc k) n)
    where
      go : (a : Access Word) → taken_by (λ k w. kind w) words (suc (from + k)) n ≡ steps (nth_by kind) (suc k) n →
          (a >>= λ w. kind w >>= λ v. taken_by (λ k w. kind w) words (suc (from + k)) n >>= λ vs. Found (v ∷ vs))
          ≡ (a >>= kind >>= λ v. steps (nth_by kind) (suc k) n >>= λ vs. Found (v ∷ vs))
      go (Found w) rest = ap (λ r. kind w >>= λ v. r >>= λ vs. Found (v ∷ vs)) rest
      go (Wrong w) rest = refl
      go (Raises t) rest = refl

  pub taken_steps : (kind : Word → Access Word) (count : ℕ) → taken_by (λ k w. kind w) words from count ≡ steps (nth_by kind) 0 count
  taken_steps kind count = ap (λ m. taken_by (λ k w. kind w) words m count) (omega arith) ∙ taken_more kind 0 count

  abbrev pub nth_marked : TypeDesc → ℕ → Access Word
  nth_marked desc k = or_wrong type_check (slice_get words (from + k)) >>= as_marked (marks desc.map k)

  -- The mark is asked for beforehand.
  pub marked_there : (desc : TypeDesc) (k : ℕ) (marked : Bool) → marked ≡ marks desc.map k → nth_marked desc k ≡ nth_by (as_marked marked) k
  marked_there desc k marked e = ap (λ b. nth_by (as_marked b) k) (sym e)

  typed_more : (desc : TypeDesc) (k n : ℕ) → typed_from desc k words (from + k) n ≡ steps (nth_marked desc) k n
  typed_more desc k zero = refl
  typed_more desc k (suc n) =
      ap (λ r. nth_marked desc k >>= λ v. r >>= λ vs. Found (v ∷ vs)) (ap (λ m. typed_from desc (suc k) words m n) (omega arith) ∙ typed_more desc (suc k) n)

  pub typed_steps : (desc : TypeDesc) (count : ℕ) → typed_from desc 0 words from count ≡ steps (nth_marked desc) 0 count
  typed_steps desc count = ap (λ m. typed_from desc 0 words m count) (omega arith) ∙ typed_more desc 0 count

  abbrev pub nth_byte : ℕ → Access ℕ
  nth_byte k = number_at Byte words (pos (from + k)) >>= byte_of

  bytes_more : (k n : ℕ) → bytes_from words (from + k) n ≡ steps nth_byte k n
  bytes_more k zero = refl
  bytes_more k (suc n) = ap (λ r. nth_byte k >>= λ v. r >>= λ vs. Found (v ∷ vs)) (ap (λ m. bytes_from words m n) (omega arith) ∙ bytes_more (suc k) n)

  pub bytes_steps : (count : ℕ) → bytes_from words from count ≡ steps nth_byte 0 count
  bytes_steps count = ap (λ m. bytes_from words m count) (omega arith) ∙ bytes_more 0 count
