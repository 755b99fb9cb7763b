-- The two laws for the initial data.
use Rattle.std.proofs.Common.{◌≡◌, ℕ, zero, suc, ◌+◌, ◌*◌, ◌/◌, ◌%◌, ◌<◌, ◌≤◌, Bool, true, false, cond, ltb, leb, eqb}
use Rattle.std.proofs.Common.{List, [], ◌∷◌, ◌++◌, length, get_or, take, drop, Option, Some, None, Ok, refl}
use Rattle.std.proofs.Common.{sym, ap, subst, ◌∙◌, append_assoc, arith, inl, inr, lit<, pos}
use Rattle.std.specs.Prelude.{⊤, ◌&&◌}
use Rattle.std.specs.List.{flat_map}
use Rattle.std.specs.Str.{is_utf8}
use Rattle.std.proofs.lemmas.Bool.{ltb-false, le-ltb, eqb-true, eq-eqb, ne_eqb}
use Rattle.std.proofs.lemmas.List.{take_at, drop_at, length-append, length-take, length-drop, get_or-drop, get_or-take}
use Rattle.std.proofs.lemmas.List.{drop-drop}
use Rattle.byteorder.specs.Endian.{big_number}
use Rattle.byteorder.specs.Numbers.{big_from-take}
use Rattle.dis_file.specs.declared.object.Item.{Item}
use Rattle.dis_file.specs.declared.types.TypeDesc.{TypeDesc}
use Rattle.dis_format.specs.declared.fault.Cause.TheVariants.{Short, BadData}
use Rattle.dis_format.specs.declared.kind.ItemKind.{ItemKind}
use Rattle.dis_format.specs.declared.kind.ItemKind.TheVariants.{Bytes, Words, Text, Reals, Array, Enter, Leave, Bigs}
use Rattle.dis_format.specs.Operands.{form_bytes}
use Rattle.dis_format.specs.Parts.{Part, byte, item, raw, natural, AreParts, IsPart, IsItemStart, item_parts}
use Rattle.dis_format.specs.Loading.{Loading, opening, kind_of, size_of, is_none, leaves_one, offset_stands}
use Rattle.dis_format.specs.Loading.{index_stands, array_stands, content_stands, stands_as, item_stands}
use Rattle.dis_format.specs.Loading.{entered, after, items_stand}
use Rattle.inf_text.specs.Steps.{◌>>=◌}
use Rattle.dis_format.specs.Reading.{AreBytes, refused, byte_at, bytes_at, word_at, natural_at, kind_here}
use Rattle.dis_format.specs.Reading.{item_kind_at, count_at, offset_at, string_at, array_kind_at, array_length_at}
use Rattle.dis_format.specs.Reading.{new_array_at, index_at, content_at, item_at, end_at, items_at, data_at}
use Rattle.dis_format.proofs.Fields.{bind_ok, guard_ok, guard_not, ok_is, Takes, Takes-then, parts_split}
use Rattle.dis_format.proofs.Fields.{one_part, part_of, Exact, exact_byte, guarded, taken, exact_bytes, exact_natural}
use Rattle.dis_format.proofs.Rows.{both, and_so}

-- ---- an item's first byte and count

start_takes : (b : ℕ) (bytes : List ℕ) (count : ℕ) (rest : List ℕ) → AreBytes (b ∷ bytes)
    → count_at (b % 16) bytes ≡ Ok (count, rest) → Takes (item (b / 16) count ∷ []) (b ∷ bytes) rest
unfolding count_at
start_takes b bytes count rest fits e = at (b % 16) refl e
  where
    below : b < 256
    below = fits 0

    at : (low : ℕ) → b % 16 ≡ low → count_at low bytes ≡ Ok (count, rest)
        → Takes (item (b / 16) count ∷ []) (b ∷ bytes) rest
    at zero is e =
        let t = (exact_natural.takes bytes count rest (λ i. fits (suc i)) e).0 in
        let p = part_of (natural count) t.front t.spelled in
        let head : b ≡ 16 * (b / 16) = omega arith in
        record {
          front = b ∷ t.front;
          spelled = one_part (item (b / 16) count) (b ∷ t.front)
              (omega (arith, below), inr (p.0, (p.1.1, rw (← head) (ap (λ (x : List ℕ). b ∷ x) p.1.2))));
          whole = ap (λ (x : List ℕ). b ∷ x) t.whole;
          rest_fits = t.rest_fits;
        }
    at (suc low) is e =
        let small : suc low ≤ 15 = omega arith in
        let head : b ≡ 16 * (b / 16) + suc low = omega arith in
        subst (λ (x : ℕ × List ℕ). Takes (item (b / 16) x.0 ∷ []) (b ∷ bytes) x.1)
        (ok_is (suc low, bytes) (count, rest) e) (record {
          front = b ∷ [];
          spelled = one_part (item (b / 16) (suc low)) (b ∷ [])
              (omega (arith, below), inl (omega arith, small, ap (λ (x : ℕ). x ∷ []) head));
          whole = refl;
          rest_fits = λ i. fits (suc i);
        })

record Starts (kind count : ℕ) (bytes rest : List ℕ) : Type 0 where
  first : ℕ
  others : List ℕ
  whole : bytes ≡ first ∷ others
  kind_is : first / 16 ≡ kind
  count_is : count_at (first % 16) others ≡ Ok (count, rest)
  shorter : length rest < length bytes

start_again : (kind count : ℕ) (front rest : List ℕ) → IsPart (item kind count) front
    → Starts kind count (front ++ rest) rest
unfolding count_at
start_again kind count front rest h = at h.1
  where
    inside : (n : ℕ) → 1 ≤ n → n ≤ 15 → count_at n rest ≡ Ok (n, rest)
    inside zero some few = absurd (omega arith)
    inside (suc n) some few = refl

    at : IsItemStart kind count front → Starts kind count (front ++ rest) rest
    at (inl c) =
        let low : (16 * kind + count) % 16 ≡ count = omega arith in
        let len : length rest < length (front ++ rest) = rw c.2 (omega arith) in
        record {
          first = 16 * kind + count;
          others = rest;
          whole = ap (λ (x : List ℕ). x ++ rest) c.2;
          kind_is = omega arith;
          count_is = rw low (inside count c.0 c.1);
          shorter = len;
        }
    at (inr c) =
        let low : 16 * kind % 16 ≡ 0 = omega arith in
        let own = form_bytes c.0 (pos count) in
        let len : length rest < length (front ++ rest) = rw c.1.1 (omega (arith, length-append own rest)) in
        record {
          first = 16 * kind;
          others = own ++ rest;
          whole = ap (λ (x : List ℕ). x ++ rest) c.1.1;
          kind_is = omega arith;
          count_is = rw low (exact_natural.again count own rest tt (one_part (natural count) own
              (c.0, (refl, c.1.0, refl))));
          shorter = len;
        }

-- ---- an item's content

-- an array's two numbers
array_view : (bytes : List ℕ) → (big_number 4 (take 8 bytes) ≡ big_number 4 bytes)
    × (big_number 4 (drop 4 (take 8 bytes)) ≡ big_number 4 (drop 4 bytes))
array_view bytes = (
  omega (arith, g 0 (lit< tt), g 1 (lit< tt), g 2 (lit< tt), g 3 (lit< tt)),
  omega (arith, h 0 (lit< tt), h 1 (lit< tt), h 2 (lit< tt), h 3 (lit< tt)),
)
  where
    h : (i : ℕ) → i < 4 → get_or (drop 4 (take 8 bytes)) i 0 ≡ get_or (drop 4 bytes) i 0
    h i lt =
        let a : get_or (drop 4 (take 8 bytes)) i 0 ≡ get_or (take 8 bytes) (4 + i) 0 = rw get_or-drop refl in
        let b : get_or (drop 4 bytes) i 0 ≡ get_or bytes (4 + i) 0 = rw get_or-drop refl in
        a ∙ get_or-take 8 bytes (4 + i) 0 (omega arith) ∙ sym b

    g : (i : ℕ) → i < 8 → get_or (take 8 bytes) i 0 ≡ get_or bytes i 0
    g i lt = get_or-take 8 bytes i 0 lt

index_view : (bytes : List ℕ) → big_number 4 (take 4 bytes) ≡ big_number 4 bytes
index_view bytes = big_from-take 0 4 4 bytes (omega arith)

abbrev Content : List TypeDesc → Loading → ItemKind → ℕ → ℕ → Type 0
Content types s kind count offset = Exact (content_at types s kind count offset) (λ c. raw c ∷ [])
    (λ c. content_stands types s kind count offset c ≡ true)

plain_content : (n : ℕ) → Exact (bytes_at n) (λ c. raw c ∷ []) (λ c. (eqb (length c) n && true) ≡ true)
plain_content n = record {
  takes = λ bytes a rest fits e. let t = (exact_bytes n).takes bytes a rest fits e in (t.0, and_so _ _ (eq-eqb _ _ t.1) refl);
  again = λ a front rest is h. (exact_bytes n).again a front rest (eqb-true _ _ (both _ _ is).0) h;
}

string_content : (n : ℕ) → Exact (string_at n) (λ c. raw c ∷ []) (λ c. (eqb (length c) n && is_utf8 c) ≡ true)
unfolding string_at
string_content n =
    let own = guarded (bytes_at n) (λ c. raw c ∷ []) (λ c. length c ≡ n) is_utf8 BadData (exact_bytes n) in
    record {
      takes = λ bytes a rest fits e.
          let t = own.takes bytes a rest fits e in (t.0, and_so _ _ (eq-eqb _ _ t.1.0) t.1.1);
      again = λ a front rest is h. let b = both _ _ is in own.again a front rest (eqb-true _ _ b.0, b.1) h;
    }

-- a word that has to pass a test
record WordIs (bytes : List ℕ) (test : ℕ → Bool) (x : ℕ × List ℕ) : Type 0 where
  long : 4 ≤ length bytes
  passes : test (big_number 4 bytes) ≡ true
  is : (big_number 4 bytes, drop 4 bytes) ≡ x

word_is : (bytes : List ℕ) (test : ℕ → Bool) (x : ℕ × List ℕ)
    → (word_at bytes >>= λ n. cond (test n.0) (Ok n) (refused BadData bytes)) ≡ Ok x → WordIs bytes test x
word_is bytes test x e =
    let k = bind_ok (word_at bytes) (λ n. cond (test n.0) (Ok n) (refused BadData bytes)) x e in
    let w = guard_not (ltb (length bytes) 4) (record { cause = Short; left = length bytes })
    (Ok (big_number 4 bytes, drop 4 bytes)) k.0 k.1.0 in
    let same = ok_is (big_number 4 bytes, drop 4 bytes) k.0 w.1 in
    let g = guard_ok (test k.0.0) (record { cause = BadData; left = length bytes }) (Ok k.0) x k.1.1 in
    record {
      long = ltb-false _ _ w.0;
      passes = subst (λ (y : ℕ × List ℕ). test y.0 ≡ true) (sym same) g.0;
      is = same ∙ ok_is k.0 x g.1;
    }

word_passes : (bytes : List ℕ) (test : ℕ → Bool) → 4 ≤ length bytes → test (big_number 4 bytes) ≡ true
    → (word_at bytes >>= λ n. cond (test n.0) (Ok n) (refused BadData bytes)) ≡ Ok (big_number 4 bytes, drop 4 bytes)
word_passes bytes test long passes = rw (le-ltb _ _ long, passes) refl

array_content : (types : List TypeDesc) → Exact (new_array_at types) (λ c. raw c ∷ [])
    (λ c. (eqb (length c) 8 && array_stands types c) ≡ true)
unfolding new_array_at array_kind_at array_length_at
array_content types = record { takes = takes; again = again }
  where
    kinds : ℕ → Bool
    kinds n = ltb n (length types)

    lengths : ℕ → ℕ → Bool
    lengths k n = leb (size_of types k * n) 268435456

    takes : (bytes a rest : List ℕ) → AreBytes bytes → new_array_at types bytes ≡ Ok (a, rest)
        → Takes (raw a ∷ []) bytes rest × ((eqb (length a) 8 && array_stands types a) ≡ true)
    takes bytes a rest fits e =
        let b = bind_ok (array_kind_at types bytes) (λ k. array_length_at types k.0 k.1 >>= λ n. Ok (take 8 bytes, n.1))
        (a, rest) e in
        let c = bind_ok (array_length_at types b.0.0 b.0.1) (λ n. Ok (take 8 bytes, n.1)) (a, rest) b.1.1 in
        let k = word_is bytes (λ n. ltb n (length types)) b.0 b.1.0 in
        let later : array_length_at types (big_number 4 bytes) (drop 4 bytes) ≡ Ok c.0 =
        subst (λ (y : ℕ × List ℕ). array_length_at types y.0 y.1 ≡ Ok c.0) (sym k.is) c.1.0 in
        let n = word_is (drop 4 bytes) (λ n. leb (size_of types (big_number 4 bytes) * n) 268435456) c.0 later in
        let long : 8 ≤ length bytes = omega (arith, k.long, n.long, length-drop 4 bytes) in
        let len : length (take 8 bytes) ≡ 8 = omega (arith, length-take 8 bytes) in
        let view = array_view bytes in
        let stands : array_stands types (take 8 bytes) ≡ true = rw (view.0, view.1) (and_so _ _ k.passes n.passes) in
        let end : drop 8 bytes ≡ c.0.1 = sym (drop-drop 4 4 bytes) ∙ ap (λ (y : ℕ × List ℕ). y.1) n.is in
        subst (λ (y : List ℕ × List ℕ). Takes (raw y.0 ∷ []) bytes y.1
        × ((eqb (length y.0) 8 && array_stands types y.0) ≡ true))
        (ok_is (take 8 bytes, c.0.1) (a, rest) c.1.1) (
          subst (λ (r : List ℕ). Takes (raw (take 8 bytes) ∷ []) bytes r) end (taken 8 (raw (take 8 bytes)) bytes fits refl),
          and_so _ _ (eq-eqb _ _ len) stands,
        )

    again : (a front rest : List ℕ) → (eqb (length a) 8 && array_stands types a) ≡ true → AreParts (raw a ∷ []) front
        → new_array_at types (front ++ rest) ≡ Ok (a, rest)
    again a front rest is h =
        let b = both _ _ is in
        let len : length a ≡ 8 = eqb-true _ _ b.0 in
        let all = a ++ rest in
        let own : take 8 all ≡ a = take_at a rest 8 len in
        let end : drop 8 all ≡ rest = drop_at a rest 8 len in
        let view = array_view all in
        let stands = both (ltb (big_number 4 a) (length types)) (leb (size_of types (big_number 4 a) * big_number 4
        (drop 4 a)) 268435456) b.1 in
        let one : big_number 4 a ≡ big_number 4 all = ap (big_number 4) (sym own) ∙ view.0 in
        let two : big_number 4 (drop 4 a) ≡ big_number 4 (drop 4 all) =
        ap (λ (y : List ℕ). big_number 4 (drop 4 y)) (sym own) ∙ view.1 in
        let long : 8 ≤ length all = omega (arith, length-append a rest, len) in
        let k = word_passes all (λ n. ltb n (length types)) (omega arith) (rw (← one) stands.0) in
        let n = word_passes (drop 4 all) (λ n. leb (size_of types (big_number 4 all) * n) 268435456)
        (omega (arith, length-drop 4 all)) (rw (← two, ← one) stands.1) in
        rw (part_of (raw a) front h, k, n, own, drop-drop 4 4 all, end) refl

index_content : (s : Loading) (offset : ℕ) → Exact (index_at s offset) (λ c. raw c ∷ [])
    (λ c. (eqb (length c) 4 && index_stands (entered s offset) (big_number 4 c)) ≡ true)
unfolding index_at
index_content s offset = record { takes = takes; again = again }
  where
    takes : (bytes a rest : List ℕ) → AreBytes bytes → index_at s offset bytes ≡ Ok (a, rest)
        → Takes (raw a ∷ []) bytes rest × ((eqb (length a) 4 && index_stands (entered s offset) (big_number 4 a)) ≡ true)
    takes bytes a rest fits e =
        let b = bind_ok (word_at bytes) (λ n. cond (index_stands (entered s offset) n.0) (Ok (take 4 bytes, n.1))
        (refused BadData bytes)) (a, rest) e in
        let w = guard_not (ltb (length bytes) 4) (record { cause = Short; left = length bytes })
        (Ok (big_number 4 bytes, drop 4 bytes)) b.0 b.1.0 in
        let same = ok_is (big_number 4 bytes, drop 4 bytes) b.0 w.1 in
        let g = guard_ok (index_stands (entered s offset) b.0.0) (record { cause = BadData; left = length bytes })
        (Ok (take 4 bytes, b.0.1)) (a, rest) b.1.1 in
        let long : 4 ≤ length bytes = ltb-false _ _ w.0 in
        let len : length (take 4 bytes) ≡ 4 = omega (arith, length-take 4 bytes) in
        let stands : index_stands (entered s offset) (big_number 4 (take 4 bytes)) ≡ true =
        ap (index_stands (entered s offset)) (index_view bytes ∙ ap (λ (y : ℕ × List ℕ). y.0) same) ∙ g.0 in
        subst (λ (y : List ℕ × List ℕ). Takes (raw y.0 ∷ []) bytes y.1
        × ((eqb (length y.0) 4 && index_stands (entered s offset) (big_number 4 y.0)) ≡ true))
        (ok_is (take 4 bytes, b.0.1) (a, rest) g.1) (
          subst (λ (r : List ℕ). Takes (raw (take 4 bytes) ∷ []) bytes r) (ap (λ (y : ℕ × List ℕ). y.1) same)
              (taken 4 (raw (take 4 bytes)) bytes fits refl),
          and_so _ _ (eq-eqb _ _ len) stands,
        )

    again : (a front rest : List ℕ) → (eqb (length a) 4 && index_stands (entered s offset) (big_number 4 a)) ≡ true
        → AreParts (raw a ∷ []) front → index_at s offset (front ++ rest) ≡ Ok (a, rest)
    again a front rest is h =
        let b = both _ _ is in
        let len : length a ≡ 4 = eqb-true _ _ b.0 in
        let all = a ++ rest in
        let own : take 4 all ≡ a = take_at a rest 4 len in
        let one : big_number 4 a ≡ big_number 4 all = ap (big_number 4) (sym own) ∙ index_view all in
        let long : ltb (length all) 4 ≡ false = le-ltb _ _ (omega (arith, length-append a rest, len)) in
        let stands : index_stands (entered s offset) (big_number 4 all) ≡ true = rw (← one) b.1 in
        rw (part_of (raw a) front h, long, stands, own, drop_at a rest 4 len) refl

exact_content : (types : List TypeDesc) (s : Loading) (kind : ItemKind) (count offset : ℕ)
    → Content types s kind count offset
exact_content types s Bytes count offset = plain_content count
exact_content types s Words count offset = plain_content (4 * count)
exact_content types s Text count offset = string_content count
exact_content types s Reals count offset = plain_content (8 * count)
exact_content types s Array count offset = array_content types
exact_content types s Enter count offset = index_content s offset
exact_content types s Leave count offset = plain_content 0
exact_content types s Bigs count offset = plain_content (8 * count)

-- ---- an item

exact_offset : (types : List TypeDesc) (s : Loading) (kind : ItemKind) (count : ℕ)
    → Exact (offset_at types s kind count) (λ n. natural n ∷ []) (λ n. ⊤ × (offset_stands types s kind count n ≡ true))
unfolding offset_at
exact_offset types s kind count =
    guarded natural_at (λ n. natural n ∷ []) (λ n. ⊤) (offset_stands types s kind count) BadData exact_natural

record Known (s : Loading) (o : Option ItemKind) (rest : List ℕ) (x : ItemKind × List ℕ) : Type 0 where
  is : o ≡ Some x.0
  leaves : leaves_one s x.0 ≡ true
  same : x.1 ≡ rest

known : (s : Loading) (o : Option ItemKind) (bytes rest : List ℕ) (x : ItemKind × List ℕ)
    → kind_here s o bytes rest ≡ Ok x → Known s o rest x
known s None bytes rest x e = absurd cc
known s (Some kind) bytes rest x e =
    let g = guard_ok (leaves_one s kind) (record { cause = BadData; left = length bytes }) (Ok (kind, rest)) x e in
    subst (λ (y : ItemKind × List ℕ). Known s (Some kind) rest y) (ok_is (kind, rest) x g.1)
    (record { is = refl; leaves = g.0; same = refl })

stands_from : (types : List TypeDesc) (s : Loading) (kind : ItemKind) (i : Item) (o : Option ItemKind) → o ≡ Some kind
    → leaves_one s kind ≡ true → offset_stands types s kind i.count i.offset ≡ true
    → content_stands types s kind i.count i.offset i.content ≡ true → stands_as types s o i ≡ true
stands_from types s kind i o is leaves offset content =
    rw is (and_so _ _ leaves (and_so _ _ offset content))

item_takes : (types : List TypeDesc) (s : Loading) (bytes : List ℕ) (i : Item) (rest : List ℕ) → AreBytes bytes
    → item_at types s bytes ≡ Ok (i, rest) → Takes (item_parts i) bytes rest × (item_stands types s i ≡ true)
unfolding item_at item_kind_at item_parts item_stands
item_takes types s [] i rest fits e = absurd cc
item_takes types s (b ∷ bytes) i rest fits e =
    let all = b ∷ bytes in
    let k = bind_ok (kind_here s (kind_of (b / 16)) all bytes) (λ kind. count_at (b % 16) kind.1 >>= λ count. offset_at
    types s kind.0 count.0 count.1 >>= λ offset. content_at types s kind.0 count.0 offset.0 offset.1 >>= λ content. Ok
    (record { kind = b / 16; count = count.0; offset = offset.0; content = content.0 }, content.1)) (i, rest) e in
    let n = known s (kind_of (b / 16)) all bytes k.0 k.1.0 in
    let c = bind_ok (count_at (b % 16) k.0.1) (λ count. offset_at types s k.0.0 count.0 count.1 >>= λ offset. content_at
    types s k.0.0 count.0 offset.0 offset.1 >>= λ content. Ok
    (record { kind = b / 16; count = count.0; offset = offset.0; content = content.0 }, content.1)) (i, rest) k.1.1 in
    let o = bind_ok (offset_at types s k.0.0 c.0.0 c.0.1) (λ offset. content_at types s k.0.0 c.0.0 offset.0 offset.1 >>=
    λ content. Ok (record { kind = b / 16; count = c.0.0; offset = offset.0; content = content.0 }, content.1)) (i, rest)
    c.1.1 in
    let t = bind_ok (content_at types s k.0.0 c.0.0 o.0.0 o.0.1) (λ content. Ok
    (record { kind = b / 16; count = c.0.0; offset = o.0.0; content = content.0 }, content.1)) (i, rest) o.1.1 in
    let counted_at : count_at (b % 16) bytes ≡ Ok (c.0.0, c.0.1) =
    subst (λ (y : List ℕ). count_at (b % 16) y ≡ Ok c.0) n.same c.1.0 in
    let one = start_takes b bytes c.0.0 c.0.1 fits counted_at in
    let two = (exact_offset types s k.0.0 c.0.0).takes c.0.1 o.0.0 o.0.1 one.rest_fits o.1.0 in
    let three = (exact_content types s k.0.0 c.0.0 o.0.0).takes o.0.1 t.0.0 t.0.1 two.0.rest_fits t.1.0 in
    let made : Item = record { kind = b / 16; count = c.0.0; offset = o.0.0; content = t.0.0 } in
    let stands : stands_as types s (kind_of (b / 16)) made ≡ true =
    stands_from types s k.0.0 made (kind_of (b / 16)) n.is n.leaves two.1.1 three.1 in
    subst (λ (y : Item × List ℕ). Takes (item_parts y.0) all y.1 × (item_stands types s y.0 ≡ true))
    (ok_is (made, t.0.1) (i, rest) t.1.1) (
      Takes-then (item (b / 16) c.0.0 ∷ []) (natural o.0.0 ∷ raw t.0.0 ∷ []) all c.0.1 t.0.1 one
          (Takes-then (natural o.0.0 ∷ []) (raw t.0.0 ∷ []) c.0.1 o.0.1 t.0.1 two.0 three.0),
      stands,
    )

-- an item's bytes begin with one that isn't 0
record ItemBegins (types : List TypeDesc) (s : Loading) (i : Item) (bytes rest : List ℕ) : Type 0 where
  first : ℕ
  others : List ℕ
  whole : bytes ≡ first ∷ others
  some : eqb first 0 ≡ false
  read : item_at types s (first ∷ others) ≡ Ok (i, rest)
  shorter : length rest < length bytes

some_kind : (n : ℕ) (kind : ItemKind) → kind_of n ≡ Some kind → 1 ≤ n
some_kind zero kind e = absurd cc
some_kind (suc n) kind e = omega arith

item_begins : (types : List TypeDesc) (s : Loading) (i : Item) (front rest : List ℕ) → item_stands types s i ≡ true
    → AreParts (item_parts i) front → ItemBegins types s i (front ++ rest) rest
unfolding item_at item_kind_at item_parts item_stands
item_begins types s i front rest is h = at (kind_of i.kind) refl is
  where
    at : (o : Option ItemKind) → kind_of i.kind ≡ o → stands_as types s o i ≡ true
        → ItemBegins types s i (front ++ rest) rest
    at None is-none stands = absurd cc
    at (Some kind) is-some stands =
        let one = parts_split (item i.kind i.count ∷ []) (natural i.offset ∷ raw i.content ∷ []) front h in
        let two = parts_split (natural i.offset ∷ []) (raw i.content ∷ []) one.back one.back_is in
        let p = part_of (item i.kind i.count) one.front one.front_is in
        let start = start_again i.kind i.count one.front (one.back ++ rest) p in
        let all : front ++ rest ≡ one.front ++ (one.back ++ rest) =
        ap (λ (y : List ℕ). y ++ rest) one.whole ∙ append_assoc one.front one.back rest in
        let behind : one.back ++ rest ≡ two.front ++ (two.back ++ rest) =
        ap (λ (y : List ℕ). y ++ rest) two.whole ∙ append_assoc two.front two.back rest in
        let l = both (leaves_one s kind) (offset_stands types s kind i.count i.offset && content_stands types s kind
        i.count i.offset i.content) stands in
        let m = both (offset_stands types s kind i.count i.offset) (content_stands types s kind i.count i.offset
        i.content) l.1 in
        let offset = (exact_offset types s kind i.count).again i.offset two.front (two.back ++ rest) (tt, m.0) two.front_is in
        let content = (exact_content types s kind i.count i.offset).again i.content two.back rest m.1 two.back_is in
        let many = some_kind i.kind kind is-some in
        let k = start.kind_is in
        record {
          first = start.first;
          others = start.others;
          whole = all ∙ start.whole;
          some = ne_eqb start.first 0 (λ z. omega (arith, many, k, z));
          read = rw (start.kind_is, is-some, l.0, start.count_is, behind, offset, content) refl;
          shorter = omega (arith, start.shorter, length-append one.back rest, ap length all);
        }

-- ---- items up to a byte 0

items_take : (types : List TypeDesc) (n : ℕ) (s : Loading) (bytes : List ℕ) (x : List Item × List ℕ) → AreBytes bytes
    → items_at types n s bytes ≡ Ok x
    → Takes (flat_map item_parts x.0 ++ byte 0 ∷ []) bytes x.1 × (items_stand types s x.0 ≡ true)
unfolding items_at
items_take types zero s bytes x fits e = absurd cc
items_take types (suc n) s bytes x fits e =
    let a = bind_ok (byte_at bytes) (λ first. cond (eqb first.0 0) (end_at s bytes first.1) (item_at types s bytes >>=
    λ i. items_at types n (after types s i.0) i.1 >>= λ others. Ok (i.0 ∷ others.0, others.1))) x e in
    at (λ s bytes x fits e. items_take types n s bytes x fits e) a.0.0 a.0.1 a.1.0 (eqb a.0.0 0) refl a.1.1
  where
    at : ((s : Loading) (bytes : List ℕ) (x : List Item × List ℕ) → AreBytes bytes → items_at types n s bytes ≡ Ok x
        → Takes (flat_map item_parts x.0 ++ byte 0 ∷ []) bytes x.1 × (items_stand types s x.0 ≡ true))
        → (b : ℕ) (rest : List ℕ) → byte_at bytes ≡ Ok (b, rest) → (z : Bool) → eqb b 0 ≡ z
        → cond z (end_at s bytes rest) (item_at types s bytes >>= λ i. items_at types n (after types s i.0) i.1 >>=
        λ others. Ok (i.0 ∷ others.0, others.1)) ≡ Ok x
        → Takes (flat_map item_parts x.0 ++ byte 0 ∷ []) bytes x.1 × (items_stand types s x.0 ≡ true)
    at up b rest first true is e =
        let t = (exact_byte.takes bytes b rest fits first).0 in
        let g = guard_ok (is_none s.back) (record { cause = BadData; left = length bytes }) (Ok ([], rest)) x e in
        subst (λ (y : List Item × List ℕ). Takes (flat_map item_parts y.0 ++ byte 0 ∷ []) bytes y.1
        × (items_stand types s y.0 ≡ true)) (ok_is ([], rest) x g.1)
        (subst (λ (k : ℕ). Takes (byte k ∷ []) bytes rest) (eqb-true _ _ is) t, g.0)
    at up b rest first false is e =
        let i = bind_ok (item_at types s bytes) (λ i. items_at types n (after types s i.0) i.1 >>= λ others. Ok
        (i.0 ∷ others.0, others.1)) x e in
        let o = bind_ok (items_at types n (after types s i.0.0) i.0.1) (λ others. Ok (i.0.0 ∷ others.0, others.1)) x
        i.1.1 in
        let one = item_takes types s bytes i.0.0 i.0.1 fits i.1.0 in
        let two = up (after types s i.0.0) i.0.1 o.0 one.0.rest_fits o.1.0 in
        let joined = Takes-then (item_parts i.0.0) (flat_map item_parts o.0.0 ++ byte 0 ∷ []) bytes i.0.1 o.0.1 one.0 two.0 in
        let made : List Item × List ℕ = (i.0.0 ∷ o.0.0, o.0.1) in
        subst (λ (y : List Item × List ℕ). Takes (flat_map item_parts y.0 ++ byte 0 ∷ []) bytes y.1
        × (items_stand types s y.0 ≡ true)) (ok_is made x o.1.1) (
          subst (λ (ps : List Part). Takes ps bytes o.0.1)
              (sym (append_assoc (item_parts i.0.0) (flat_map item_parts o.0.0) (byte 0 ∷ []))) joined,
          and_so _ _ one.1 two.1,
        )

items_again : (types : List TypeDesc) (is : List Item) (n : ℕ) (s : Loading) (front rest : List ℕ)
    → length (front ++ rest) ≤ n → items_stand types s is ≡ true → AreParts (flat_map item_parts is ++ byte 0 ∷ []) front
    → items_at types n s (front ++ rest) ≡ Ok (is, rest)
unfolding items_at
items_again types [] zero s front rest few stands h =
    let p = part_of (byte 0) front h in absurd (omega (arith, few, ap (λ (y : List ℕ). length (y ++ rest)) p))
items_again types [] (suc n) s front rest few stands h = rw (part_of (byte 0) front h, stands) refl
items_again types (i ∷ is) zero s front rest few stands h =
    let one = parts_split (item_parts i) (flat_map item_parts is ++ byte 0 ∷ []) front
    (subst (λ (ps : List Part). AreParts ps front) (append_assoc (item_parts i) (flat_map item_parts is) (byte 0 ∷ [])) h) in
    let b = item_begins types s i one.front (one.back ++ rest) (both _ _ stands).0 one.front_is in
    let all : front ++ rest ≡ one.front ++ (one.back ++ rest) =
    ap (λ (y : List ℕ). y ++ rest) one.whole ∙ append_assoc one.front one.back rest in
    absurd (omega (arith, few, b.shorter, ap length all))
items_again types (i ∷ is) (suc n) s front rest few stands h =
    let one = parts_split (item_parts i) (flat_map item_parts is ++ byte 0 ∷ []) front
    (subst (λ (ps : List Part). AreParts ps front) (append_assoc (item_parts i) (flat_map item_parts is) (byte 0 ∷ [])) h) in
    let t = both _ _ stands in
    let b = item_begins types s i one.front (one.back ++ rest) t.0 one.front_is in
    let all : front ++ rest ≡ one.front ++ (one.back ++ rest) =
    ap (λ (y : List ℕ). y ++ rest) one.whole ∙ append_assoc one.front one.back rest in
    let fewer : length (one.back ++ rest) ≤ n = omega (arith, few, b.shorter, ap length all) in
    let others = items_again types is n (after types s i) one.back rest fewer t.1 one.back_is in
    rw (all ∙ b.whole, b.some, b.read, others) refl

pub exact_data : (types : List TypeDesc) (data_size : ℕ) → Exact (data_at types data_size)
    (λ is. flat_map item_parts is ++ byte 0 ∷ []) (λ is. items_stand types (opening data_size) is ≡ true)
unfolding data_at
exact_data types data_size = record {
  takes = λ bytes is rest fits e. items_take types (length bytes) (opening data_size) bytes (is, rest) fits e;
  again = λ is front rest stands h.
      items_again types is (length (front ++ rest)) (opening data_size) front rest (omega arith) stands h;
}
