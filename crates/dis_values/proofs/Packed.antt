-- Bytes in words.
use Rattle.std.proofs.Common.{◌≡◌, ◌≢◌, ℕ, zero, suc, ◌+◌, ◌-◌, ◌*◌, ◌/◌, ◌%◌, ◌^◌, ◌<◌, ◌≤◌, Bool, false, List, [], ◌∷◌, length, Option}
use Rattle.std.proofs.Common.{Some, None, refl, sym, ap, subst, ◌∙◌, arith, inl, inr}
use Rattle.std.specs.Prelude.{map, slice_get, slice_set, replicate, if◌then◌else◌, Ok, Err}
use Rattle.std.proofs.lemmas.List.{length-replicate}
use Rattle.std.proofs.lemmas.Bool.Decides.{eqb_tells}
use Rattle.ref_heap.specs.declared.kind.Kind.{Kind}
use Rattle.ref_heap.specs.declared.kind.Kind.TheVariants.{Array, Slice}
use Rattle.ref_heap.specs.declared.kind.HeapFault.{HeapFault}
use Rattle.ref_heap.specs.Words.{Cell, Content, cells, compact, wide, plain, refer, with_cell}
use Rattle.ref_heap.specs.Answers.{set_answer, fits_there, found}
use Rattle.ref_heap.specs.Store.{Store, Block, IsHeap, at, live_numbers, words_of, with_block, with_content, with_new, fresh, one_more}
use Rattle.dis_values.specs.Making.{Makes}
use Rattle.dis_values.specs.Arrays.{Part, part_of, part_in, part_by, byte_in, elements, elements_in, elements_by, size_of, any_marked}
use Rattle.dis_values.specs.Arrays.{zeroed, zeroed_words, words_for, Slices}
use Rattle.dis_values.specs.Bytes.{byte_of, bytes_in, bytes_by, bytes_of, HasBytes, IsPlain, SetsByte}
use Rattle.dis_values.proofs.Made.{block_there, other_block, new_there, other_new, not_next}

-- a number with another byte
abbrev pub changed_at : ℕ → ℕ → ℕ → ℕ
changed_at v b p = (v / p / 256 * 256 + b) * p + v % p

pub changed_here : (v b k : ℕ) → k < 4 → b < 256 → changed_at v b (256 ^ (3 - k)) / 256 ^ (3 - k) % 256 ≡ b
changed_here v b zero h l = omega arith
changed_here v b (suc zero) h l = omega arith
changed_here v b (suc (suc zero)) h l = omega arith
changed_here v b (suc (suc (suc zero))) h l = omega arith
changed_here v b (suc (suc (suc (suc k)))) h l = absurd (omega arith)

pub changed_apart : (v b k j : ℕ) → k < 4 → b < 256 → j < 4 → j ≢ k → changed_at v b (256 ^ (3 - k)) / 256 ^ (3 - j) % 256 ≡ v / 256 ^
    (3 - j) % 256
changed_apart v b zero zero h l g a = absurd (a refl)
changed_apart v b zero (suc zero) h l g a = omega arith
changed_apart v b zero (suc (suc zero)) h l g a = omega arith
changed_apart v b zero (suc (suc (suc zero))) h l g a = omega arith
changed_apart v b (suc zero) zero h l g a = omega arith
changed_apart v b (suc zero) (suc zero) h l g a = absurd (a refl)
changed_apart v b (suc zero) (suc (suc zero)) h l g a = omega arith
changed_apart v b (suc zero) (suc (suc (suc zero))) h l g a = omega arith
changed_apart v b (suc (suc zero)) zero h l g a = omega arith
changed_apart v b (suc (suc zero)) (suc zero) h l g a = omega arith
changed_apart v b (suc (suc zero)) (suc (suc zero)) h l g a = absurd (a refl)
changed_apart v b (suc (suc zero)) (suc (suc (suc zero))) h l g a = omega arith
changed_apart v b (suc (suc (suc zero))) zero h l g a = omega arith
changed_apart v b (suc (suc (suc zero))) (suc zero) h l g a = omega arith
changed_apart v b (suc (suc (suc zero))) (suc (suc zero)) h l g a = omega arith
changed_apart v b (suc (suc (suc zero))) (suc (suc (suc zero))) h l g a = absurd (a refl)
changed_apart v b (suc (suc (suc (suc k)))) j h l g a = absurd (omega arith)
changed_apart v b zero (suc (suc (suc (suc j)))) h l g a = absurd (omega arith)
changed_apart v b (suc zero) (suc (suc (suc (suc j)))) h l g a = absurd (omega arith)
changed_apart v b (suc (suc zero)) (suc (suc (suc (suc j)))) h l g a = absurd (omega arith)
changed_apart v b (suc (suc (suc zero))) (suc (suc (suc (suc j)))) h l g a = absurd (omega arith)

-- what it is made of is not too large
pub record Small (v b p : ℕ) : Type 0 where
  pub some : 0 < p
  pub high : v / p / 256 * 256 < 2 ^ 32
  pub whole : v / p / 256 * 256 + b < 2 ^ 32
  pub placed : (v / p / 256 * 256 + b) * p < 2 ^ 32
  pub all : changed_at v b p < 2 ^ 32

pub small : (v b k : ℕ) → v < 2 ^ 32 → k < 4 → b < 256 → Small v b (256 ^ (3 - k))
small v b zero f h l = record { some = omega arith; high = omega arith; whole = omega arith; placed = omega arith; all = omega arith }
small v b (suc zero) f h l = record { some = omega arith; high = omega arith; whole = omega arith; placed = omega arith; all = omega arith }
small v b (suc (suc zero)) f h l = record {
  some = omega arith;
  high = omega arith;
  whole = omega arith;
  placed = omega arith;
  all =
      omega arith;
}
small v b (suc (suc (suc zero))) f h l = record {
  some = omega arith;
  high = omega arith;
  whole = omega arith;
  placed =
      omega arith;
  all = omega arith;
}
small v b (suc (suc (suc (suc k)))) f h l = absurd (omega arith)

-- numbers as words
plain_get : (ns : List ℕ) (i v : ℕ) → slice_get ns i ≡ Some v → slice_get (map plain ns) i ≡ Some (plain v)
plain_get [] i v e = absurd cc
plain_get (n ∷ ns) zero v e = (let f : n ≡ v = cc in ap (λ (x : ℕ). Some (plain x)) f)
plain_get (n ∷ ns) (suc i) v e = plain_get ns i v e

get_within : (ns : List ℕ) (i v : ℕ) → slice_get ns i ≡ Some v → i < length ns
get_within [] i v e = absurd cc
get_within (n ∷ ns) zero v e = omega arith
get_within (n ∷ ns) (suc i) v e = (let l = get_within ns i v e in omega arith)

pub set_get : (ns : List ℕ) (i v : ℕ) → i < length ns → slice_get (map plain (slice_set ns i v)) i ≡ Some (plain v)
set_get [] i v h = absurd (omega arith)
set_get (n ∷ ns) zero v h = refl
set_get (n ∷ ns) (suc i) v h = set_get ns i v (omega arith)

pub set_apart : (ns : List ℕ) (i j v : ℕ) → j ≢ i → slice_get (map plain (slice_set ns i v)) j ≡ slice_get (map plain ns) j
set_apart [] i j v a = refl
set_apart (n ∷ ns) zero zero v a = absurd (a refl)
set_apart (n ∷ ns) zero (suc j) v a = refl
set_apart (n ∷ ns) (suc i) zero v a = refl
set_apart (n ∷ ns) (suc i) (suc j) v a = set_apart ns i j v (λ e. a (ap suc e))

pub set_length : (ns : List ℕ) (i v : ℕ) → length (slice_set ns i v) ≡ length ns
set_length [] i v = refl
set_length (n ∷ ns) zero v = refl
set_length (n ∷ ns) (suc i) v = omega (arith, set_length ns i v)

pub map_length : (ns : List ℕ) → length (map plain ns) ≡ length ns
map_length [] = refl
map_length (n ∷ ns) = omega (arith, map_length ns)

byte_here : (ns : List ℕ) (i v v' value : ℕ) → slice_get ns (i / 4) ≡ Some v → v' / 256 ^ (3 - i % 4) % 256 ≡ value
    → byte_of (map plain (slice_set ns (i / 4) v')) i ≡ value
byte_here ns i v v' value e f = ap (byte_in (i % 4)) (set_get ns (i / 4) v' (get_within ns (i / 4) v e)) ∙ f

byte_apart : (ns : List ℕ) (i j v v' : ℕ) → slice_get ns (i / 4) ≡ Some v → j ≢ i
    → ((k : ℕ) → k < 4 → k ≢ i % 4 → v' / 256 ^ (3 - k) % 256 ≡ v / 256 ^ (3 - k) % 256)
    → byte_of (map plain (slice_set ns (i / 4) v')) j ≡ byte_of (map plain ns) j
byte_apart ns i j v v' e a f = elim (eqb_tells (j / 4) (i / 4)) [
  | inl y ↦
      let other : j % 4 ≢ i % 4 = (λ (z : j % 4 ≡ i % 4). a (omega (arith, y.1))) in
      let p : slice_get (map plain (slice_set ns (i / 4) v')) (j / 4) ≡ Some (plain v') =
      ap (slice_get (map plain (slice_set ns (i / 4) v'))) y.1 ∙ set_get ns (i / 4) v' (get_within ns (i / 4) v e) in
      let q : slice_get (map plain ns) (j / 4) ≡ Some (plain v) = ap (slice_get (map plain ns)) y.1 ∙ plain_get ns (i / 4) v e in
      ap (byte_in (j % 4)) p ∙ f (j % 4) (omega arith) other ∙ sym (ap (byte_in (j % 4)) q)
  | inr y ↦ ap (byte_in (j % 4)) (set_apart ns (i / 4) (j / 4) v' y.1)
]

-- lists of bytes
pub bytes_length : (words : List Cell) (i n : ℕ) → length (bytes_in words i n) ≡ n
bytes_length words i zero = refl
bytes_length words i (suc n) = omega (arith, bytes_length words (suc i) n)

pub bytes_get : (words : List Cell) (f n i : ℕ) → i < n → slice_get (bytes_in words f n) i ≡ Some (byte_of words (f + i))
bytes_get words f zero i h = absurd (omega arith)
bytes_get words f (suc n) zero h = (let e : f ≡ f + 0 = omega arith in ap (λ (x : ℕ). Some (byte_of words x)) e)
bytes_get words f (suc n) (suc i) h = bytes_get words (suc f) n i (omega arith)
    ∙ (let e : suc f + i ≡ f + suc i = omega arith in ap (λ (x : ℕ). Some (byte_of words x)) e)

pub bytes_past : (words : List Cell) (f n i : ℕ) → n ≤ i → slice_get (bytes_in words f n) i ≡ None
bytes_past words f zero i h = refl
bytes_past words f (suc n) zero h = absurd (omega arith)
bytes_past words f (suc n) (suc i) h = bytes_past words (suc f) n i (omega arith)

bytes_same : (ws ws' : List Cell) (f n : ℕ) → ((j : ℕ) → f ≤ j → byte_of ws' j ≡ byte_of ws j) → bytes_in ws' f n ≡ bytes_in ws f n
bytes_same ws ws' f zero e = refl
bytes_same ws ws' f (suc n) e =
    ap (λ (b : ℕ). b ∷ bytes_in ws' (suc f) n) (e f (omega arith)) ∙ ap (λ (bs : List ℕ). byte_of ws f ∷ bs)
    (bytes_same ws ws' (suc f) n (λ j h. e j (omega arith)))

pub bytes_set : (ws ws' : List Cell) (f n i value : ℕ) → byte_of ws' (f + i) ≡ value → ((j : ℕ) → j ≢ f + i → byte_of ws' j ≡ byte_of ws j)
    → bytes_in ws' f n ≡ slice_set (bytes_in ws f n) i value
bytes_set ws ws' f zero i value here apart = refl
bytes_set ws ws' f (suc n) zero value here apart =
    ap (λ (b : ℕ). b ∷ bytes_in ws' (suc f) n) ((let e : f ≡ f + 0 = omega arith in ap (byte_of ws') e) ∙ here)
    ∙ ap (λ (bs : List ℕ). value ∷ bs) (bytes_same ws ws' (suc f) n (λ j h. apart j (λ e. absurd (omega (arith, e)))))
bytes_set ws ws' f (suc n) (suc i) value here apart =
    let e : suc f + i ≡ f + suc i = omega arith in
    ap (λ (b : ℕ). b ∷ bytes_in ws' (suc f) n) (apart f (λ z. absurd (omega (arith, z))))
    ∙ ap (λ (bs : List ℕ). byte_of ws f ∷ bs) (bytes_set ws ws' (suc f) n i value (ap (byte_of ws') e ∙ here)
    (λ j a. apart j (λ z. a (z ∙ sym e))))

-- what a reference stands for stays where a block's words alone change
pub part_kept : (h : Store) (s k size length : ℕ) (b b' : Block) → at h k ≡ Some b → b.kind ≡ Array size length → b'.kind ≡ b.kind
    → part_of (with_block h k b') s ≡ part_of h s
part_kept h s k size length b b' is kind same = elim (eqb_tells s k) [
  | inl y ↦
      let here : at (with_block h k b') s ≡ Some b' = ap (at (with_block h k b')) y.1 ∙ block_there h k b' in
      let old : at h s ≡ Some b = ap (at h) y.1 ∙ is in
      ap (part_in s) here ∙ ap (λ (q : Kind). part_by s q (words_of b')) (same ∙ kind)
      ∙ sym (ap (part_in s) old ∙ ap (λ (q : Kind). part_by s q (words_of b)) kind)
  | inr y ↦ ap (part_in s) (other_block h k b' s y.1)
]

pub found_some : (o : Option Cell) (c : Cell) → Ok c ≡ found o → o ≡ Some c
found_some None c e = absurd cc
found_some (Some d) c e = (let f : c ≡ d = cc in ap (λ (x : Cell). Some x) (sym f))

found_none : (o : Option Cell) (e : HeapFault) → Err e ≡ found o → o ≡ None
found_none None e f = refl
found_none (Some d) e f = absurd cc

-- a byte that was read
pub read : (h : Store) (k i : ℕ) (b : Block) (c : Cell) → at h k ≡ Some b → Ok c ≡ found (slice_get (words_of b) (i / 4))
    → byte_in (i % 4) (Some c) ≡ byte_of (words_of b) i
read h k i b c is e = sym (ap (byte_in (i % 4)) (found_some (slice_get (words_of b) (i / 4)) c e))

pub unread : (i : ℕ) (b : Block) (e : HeapFault) → Err e ≡ found (slice_get (words_of b) (i / 4)) → 0 ≡ byte_of (words_of b) i
unread i b e f = sym (ap (byte_in (i % 4)) (found_none (slice_get (words_of b) (i / 4)) e f))

pub numbers_are : (h : Store) (k bytes : ℕ) (t : HasBytes h k bytes) → live_numbers (at h k) ≡ Some t.numbers
numbers_are h k bytes t = ap live_numbers t.live ∙ ap (λ (c : Content). live_numbers (Some (record t.block { content = c }))) t.content

-- a number may stand in place of another
pub can_put_number : (h : Store) (k bytes i v c : ℕ) (t : HasBytes h k bytes) → slice_get t.numbers i ≡ Some v
    → set_answer (at h k) i (plain c) ≡ Ok tt
can_put_number h k bytes i v c t e =
    ap (λ (o : Option Block). set_answer o i (plain c)) t.live
    ∙ ap (λ (x : Content). fits_there (slice_get (cells x) i) (plain c)) t.content
    ∙ ap (λ (o : Option Cell). fits_there o (plain c)) (plain_get t.numbers i v e)

-- a byte is set
pub sets : (h new : Store) (k bytes i v v' value : ℕ) (t : HasBytes h k bytes) → slice_get t.numbers (i / 4) ≡ Some v
    → v' / 256 ^ (3 - i % 4) % 256 ≡ value
    → ((j : ℕ) → j < 4 → j ≢ i % 4 → v' / 256 ^ (3 - j) % 256 ≡ v / 256 ^ (3 - j) % 256)
    → new ≡ with_block h k (with_content t.block (with_cell t.block.content (i / 4) (plain v')))
    → SetsByte h new k i value
sets h new k bytes i v v' value t e here apart made =
    let old : words_of t.block ≡ map plain t.numbers = ap cells t.content in
    record {
      block = t.block;
      live = t.live;
      numbers = slice_set t.numbers (i / 4) v';
      changed = made ∙ ap (λ (c : Content). with_block h k (with_content t.block (with_cell c (i / 4) (plain v')))) t.content;
      size = set_length t.numbers (i / 4) v' ∙ sym (map_length t.numbers) ∙ sym (ap length old);
      here = byte_here t.numbers i v v' value e here;
      apart = λ j a. byte_apart t.numbers i j v v' e a apart ∙ sym (ap (λ (ws : List Cell). byte_of ws j) old);
    }

-- the bytes of an array in a block
pub bytes_are : (h : Store) (s : ℕ) (b : Block) → at h (part_of h s).array ≡ Some b
    → bytes_of h s ≡ bytes_in (words_of b) (part_of h s).from (part_of h s).length
bytes_are h s b is = ap (λ (o : Option Block). bytes_by o (part_of h s).from (part_of h s).length) is

-- what is known where a byte of an array was set
pub record Stored (h new : Store) (s i value : ℕ) : Type 0 where
  pub bytes : bytes_of new s ≡ slice_set (bytes_of h s) i value
  pub still : IsPlain new s 1

pub stored : (h new : Store) (s i value : ℕ) → IsPlain h s 1 → SetsByte h new (part_of h s).array ((part_of h s).from + i) value
    → Stored h new s i value
stored h new s i value a d =
    let p = part_of h s in
    let w = a.whole in
    let b' = with_content d.block (compact d.numbers) in
    let one : w.block ≡ d.block = (let f : Some w.block ≡ Some d.block = sym w.live ∙ d.live in cc) in
    let kind : d.block.kind ≡ Array 1 a.length = sym (ap (λ (x : Block). x.kind) one) ∙ w.kind in
    let same : part_of new s ≡ p = ap (λ (v : Store). part_of v s) d.changed
    ∙ part_kept h s p.array 1 a.length d.block b' d.live kind refl in
    let there : at new p.array ≡ Some b' = ap (λ (v : Store). at v p.array) d.changed ∙ block_there h p.array b' in
    let live : at new (part_of new s).array ≡ Some b' = ap (λ (q : Part). at new q.array) same ∙ there in
    let young : bytes_of new s ≡ bytes_in (map plain d.numbers) p.from p.length = bytes_are new s b' live
    ∙ ap (λ (q : Part). bytes_in (map plain d.numbers) q.from q.length) same in
    let within : (part_of new s).from + (part_of new s).length ≤ a.length =
    subst (λ (q : Part). q.from + q.length ≤ a.length) (sym same) a.within in
    let t = a.kept in
    let also : t.block ≡ d.block = (let f : Some t.block ≡ Some d.block = sym t.live ∙ d.live in cc) in
    let count : length (words_of d.block) ≡ length t.numbers = ap (λ (x : Block). length (words_of x)) (sym also)
    ∙ ap (λ (c : Content). length (cells c)) t.content ∙ map_length t.numbers in
    record {
      bytes = young ∙ bytes_set (words_of d.block) (map plain d.numbers) p.from p.length i value d.here d.apart
          ∙ sym (ap (λ (bs : List ℕ). slice_set bs i value) (bytes_are h s d.block d.live));
      still = record {
        length = a.length;
        whole = record { block = b'; live = live; kind = kind; bytes = w.bytes; small = w.small };
        within = within;
        kept = record {
          block = b';
          live = live;
          numbers = d.numbers;
          content = refl;
          enough = (let l = t.enough in omega (arith, d.size, count));
        };
      };
    }

-- an element of an array of bytes is a byte
pub elements_bytes : (words : List Cell) (i n : ℕ) → elements_in 1 words i n ≡ map (λ (b : ℕ). plain b ∷ []) (bytes_in words i n)
elements_bytes words i zero = refl
elements_bytes words i (suc n) = ap (λ (xs : List (List Cell)). (plain (byte_of words i) ∷ []) ∷ xs) (elements_bytes words (suc i) n)

pub bytes_elements : (h : Store) (s : ℕ) → IsPlain h s 1 → elements h s ≡ map (λ (b : ℕ). plain b ∷ []) (bytes_of h s)
bytes_elements h s a =
    let p = part_of h s in
    let b = a.whole.block in
    ap (λ (o : Option Block). elements_by o p.from p.length) a.whole.live
    ∙ ap (λ (k : Kind). elements_in (size_of k) (words_of b) p.from p.length) a.whole.kind
    ∙ elements_bytes (words_of b) p.from p.length
    ∙ sym (ap (map (λ (x : ℕ). plain x ∷ [])) (bytes_are h s b a.whole.live))

pub some_worth : (k : ℕ) → k < 4 → 0 < 256 ^ (3 - k)
some_worth zero h = omega arith
some_worth (suc zero) h = omega arith
some_worth (suc (suc zero)) h = omega arith
some_worth (suc (suc (suc zero))) h = omega arith
some_worth (suc (suc (suc (suc k)))) h = absurd (omega arith)

pub bytes_count : (h : Store) (s : ℕ) (b : Block) → at h (part_of h s).array ≡ Some b → length (bytes_of h s) ≡ (part_of h s).length
bytes_count h s b is = ap length (bytes_are h s b is) ∙ bytes_length (words_of b) (part_of h s).from (part_of h s).length

-- a zeroed array without marks
pub made_plain : (h new : Store) (made size len : ℕ) (marks : List Bool) → any_marked marks ≡ false → size * len ≤ 268435456 → len < 2 ^ 32
    → Makes h new made (fresh (Array size len) (zeroed size marks len)) → IsPlain new made size
made_plain h new made size len marks none bytes small m =
    let b = fresh (Array size len) (zeroed size marks len) in
    let ns : List ℕ = replicate (words_for size len) 0 in
    let here : at new made ≡ Some b = ap (λ (v : Store). at v made) m.makes ∙ ap (at (with_new h b)) m.serial ∙ new_there h b in
    let same : part_of new made ≡ record { array = made; from = 0; length = len } = ap (part_in made) here in
    let live : at new (part_of new made).array ≡ Some b = ap (λ (q : Part). at new q.array) same ∙ here in
    let within : (part_of new made).from + (part_of new made).length ≤ len =
    subst (λ (q : Part). q.from + q.length ≤ len) (sym same) (omega arith) in
    record {
      length = len;
      whole = record { block = b; live = live; kind = refl; bytes = bytes; small = small };
      within = within;
      kept = record {
        block = b;
        live = live;
        numbers = ns;
        content = ap (λ (v : Bool). if v then wide (zeroed_words size marks 0 (words_for size len)) else compact ns) none;
        enough = (let e : length ns ≡ words_for size len = length-replicate (words_for size len) 0 in omega arith);
      };
    }

pub sliced_plain : (h new : Store) (s from to made size : ℕ) → IsHeap h → IsPlain h s size → from ≤ to → to ≤ (part_of h s).length
    → Slices h new (part_of h s) from to made → IsPlain new made size
sliced_plain h new s from to made size ok a rising within sl =
    let p = part_of h s in
    let b = sl.block in
    let h1 = with_block h p.array (one_more b) in
    let c = fresh (Slice (p.from + from) (to - from)) (wide (refer (Some p.array) ∷ [])) in
    let here : at new made ≡ Some c = ap (λ (v : Store). at v made) sl.makes ∙ ap (at (with_new h1 c)) sl.serial ∙ new_there h1 c in
    let base : at new p.array ≡ Some (one_more b) = ap (λ (v : Store). at v p.array) sl.makes
    ∙ other_new h1 c p.array (not_next h p.array b ok sl.live) ∙ block_there h p.array (one_more b) in
    let same : part_of new made ≡ part_in made (Some c) = ap (part_in made) here in
    let live : at new (part_of new made).array ≡ Some (one_more b) = ap (λ (q : Part). at new q.array) same ∙ base in
    let block : a.whole.block ≡ b = (let f : Some a.whole.block ≡ Some b = sym a.whole.live ∙ sl.live in cc) in
    let also : a.kept.block ≡ b = (let f : Some a.kept.block ≡ Some b = sym a.kept.live ∙ sl.live in cc) in
    let w = a.within in
    let inside : p.from + from + (to - from) ≤ a.length = omega arith in
    record {
      length = a.length;
      whole = record {
        block = one_more b;
        live = live;
        kind = sym (ap (λ (x : Block). x.kind) block)
            ∙ a.whole.kind;
        bytes = a.whole.bytes;
        small = a.whole.small;
      };
      within = subst (λ (q : Part). q.from + q.length ≤ a.length) (sym same) inside;
      kept = record {
        block = one_more b;
        live = live;
        numbers = a.kept.numbers;
        content = sym (ap (λ (x : Block). x.content) also)
            ∙ a.kept.content;
        enough = a.kept.enough;
      };
    }
