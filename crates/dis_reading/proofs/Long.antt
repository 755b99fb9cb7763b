-- An item's content is as long as what is read in it.
use Rattle.std.proofs.Common.{◌≡◌, ℕ, suc, ◌+◌, ◌-◌, ◌*◌, ◌/◌, ◌<◌, ◌≤◌, Bool, true, false, cond, ltb, leb, eqb, List, [], ◌∷◌, ◌++◌}
use Rattle.std.proofs.Common.{length, take, drop, Ok, Err, refl, sym, ap, ◌∙◌, arith, Option, Some, None}
use Rattle.std.proofs.lemmas.Bool.{ltb-false}
use Rattle.std.proofs.lemmas.List.{length-take, length-drop}
use Rattle.byteorder.specs.Endian.{big_number}
use Rattle.dis_file.specs.declared.object.Item.{Item}
use Rattle.dis_file.specs.declared.types.TypeDesc.{TypeDesc}
use Rattle.dis_format.specs.declared.fault.Cause.TheVariants.{Short, BadData}
use Rattle.dis_format.specs.declared.fault.ReadFault.{ReadFault}
use Rattle.dis_format.specs.declared.fault.ReadFault.TheVariants.{NoMemory, Refused}
use Rattle.dis_format.specs.declared.kind.ItemKind.{ItemKind}
use Rattle.dis_format.specs.declared.kind.ItemKind.TheVariants.{Array, Enter}
use Rattle.dis_format.specs.Loading.{Loading, kind_of, leaves_one, size_of, index_stands, entered, after}
use Rattle.inf_text.specs.Steps.{◌>>=◌}
use Rattle.dis_format.specs.Reading.{Read, FailsAs, refused, byte_at, word_at, array_kind_at, array_length_at, new_array_at}
use Rattle.dis_format.specs.Reading.{index_at, content_at, item_at, end_at, items_at, item_kind_at, kind_here}
use Rattle.dis_format.proofs.Fields.{bind_ok, guard_ok, guard_not, ok_is}
use Rattle.dis_filling.specs.Filling.{IsLongEnough, IsReadableAs}
use Rattle.dis_reading.specs.Body.{with_front}
use Rattle.dis_reading.proofs.Loop.{regroup}

word_long : (bytes : List ℕ) (x : ℕ × List ℕ) → word_at bytes ≡ Ok x → (4 ≤ length bytes) × (x.1 ≡ drop 4 bytes)
word_long bytes x e =
    let w = guard_not (ltb (length bytes) 4) (record { cause = Short; left = length bytes })
    (Ok (big_number 4 bytes, drop 4 bytes)) x e in
    (ltb-false _ _ w.0, sym (ap (λ (y : ℕ × List ℕ). y.1) (ok_is (big_number 4 bytes, drop 4 bytes) x w.1)))

tested_long : (bytes : List ℕ) (test : ℕ → Bool) (x : ℕ × List ℕ)
    → (word_at bytes >>= λ n. cond (test n.0) (Ok n) (refused BadData bytes)) ≡ Ok x
    → (4 ≤ length bytes) × (x.1 ≡ drop 4 bytes)
tested_long bytes test x e =
    let k = bind_ok (word_at bytes) (λ n. cond (test n.0) (Ok n) (refused BadData bytes)) x e in
    let w = word_long bytes k.0 k.1.0 in
    let g = guard_ok (test k.0.0) (record { cause = BadData; left = length bytes }) (Ok k.0) x k.1.1 in
    (w.0, sym (ap (λ (y : ℕ × List ℕ). y.1) (ok_is k.0 x g.1)) ∙ w.1)

array_long : (types : List TypeDesc) (bytes c rest : List ℕ) → new_array_at types bytes ≡ Ok (c, rest) → 8 ≤ length c
unfolding new_array_at array_kind_at array_length_at
array_long types bytes c rest e =
    let b = bind_ok (array_kind_at types bytes) (λ k. array_length_at types k.0 k.1 >>= λ n. Ok (take 8 bytes, n.1))
    (c, rest) e in
    let d = bind_ok (array_length_at types b.0.0 b.0.1) (λ n. Ok (take 8 bytes, n.1)) (c, rest) b.1.1 in
    let k = tested_long bytes (λ n. ltb n (length types)) b.0 b.1.0 in
    let n = tested_long b.0.1 (λ n. leb (size_of types b.0.0 * n) 268435456) d.0 d.1.0 in
    let is : take 8 bytes ≡ c = ap (λ (y : List ℕ × List ℕ). y.0) (ok_is (take 8 bytes, d.0.1) (c, rest) d.1.1) in
    omega (arith, k.0, n.0, ap length k.1, length-drop 4 bytes, length-take 8 bytes, ap length is)

index_long : (s : Loading) (offset : ℕ) (bytes c rest : List ℕ) → index_at s offset bytes ≡ Ok (c, rest) → 4 ≤ length c
unfolding index_at
index_long s offset bytes c rest e =
    let b = bind_ok (word_at bytes) (λ n. cond (index_stands (entered s offset) n.0) (Ok (take 4 bytes, n.1))
    (refused BadData bytes)) (c, rest) e in
    let w = word_long bytes b.0 b.1.0 in
    let g = guard_ok (index_stands (entered s offset) b.0.0) (record { cause = BadData; left = length bytes })
    (Ok (take 4 bytes, b.0.1)) (c, rest) b.1.1 in
    let is : take 4 bytes ≡ c = ap (λ (y : List ℕ × List ℕ). y.0) (ok_is (take 4 bytes, b.0.1) (c, rest) g.1) in
    omega (arith, w.0, length-take 4 bytes, ap length is)

pub content_long : (types : List TypeDesc) (s : Loading) (kind : ItemKind) (count offset : ℕ) (bytes c rest : List ℕ)
    → content_at types s kind count offset bytes ≡ Ok (c, rest) → IsLongEnough kind (length c)
content_long types s Array count offset bytes c rest e = array_long types bytes c rest e
content_long types s Enter count offset bytes c rest e = index_long s offset bytes c rest e
content_long types s _ count offset bytes c rest e = tt

-- ---- items

kind_known : (s : Loading) (o : Option ItemKind) (bytes rest : List ℕ) (x : ItemKind × List ℕ)
    → kind_here s o bytes rest ≡ Ok x → o ≡ Some x.0
kind_known s None bytes rest x e = absurd cc
kind_known s (Some kind) bytes rest x e =
    let g = guard_ok (leaves_one s kind) (record { cause = BadData; left = length bytes }) (Ok (kind, rest)) x e in
    ap (λ (y : ItemKind × List ℕ). Some y.0) (ok_is (kind, rest) x g.1)

kind_is : (s : Loading) (bytes : List ℕ) (x : ItemKind × List ℕ) (b : ℕ) (rest : List ℕ) → item_kind_at s bytes ≡ Ok x
    → byte_at bytes ≡ Ok (b, rest) → kind_of (b / 16) ≡ Some x.0
unfolding item_kind_at
kind_is s bytes x b rest e f =
    let k = bind_ok (byte_at bytes) (λ first. kind_here s (kind_of (first.0 / 16)) bytes first.1) x e in
    let same : k.0.0 ≡ b = ap (λ (y : ℕ × List ℕ). y.0) (ok_is k.0 (b, rest) (sym k.1.0 ∙ f)) in
    ap (λ (n : ℕ). kind_of (n / 16)) (sym same) ∙ kind_known s (kind_of (k.0.0 / 16)) bytes k.0.1 x k.1.1

pub readable : (types : List TypeDesc) (s : Loading) (bytes : List ℕ) (kind : ItemKind) (after : List ℕ) (b : ℕ)
    (rest : List ℕ) (count offset : ℕ) (own c left : List ℕ) → item_kind_at s bytes ≡ Ok (kind, after)
    → byte_at bytes ≡ Ok (b, rest) → content_at types s kind count offset own ≡ Ok (c, left)
    → IsReadableAs (kind_of (b / 16)) (length c)
readable types s bytes kind after b rest count offset own c left e f g =
    rw (kind_is s bytes (kind, after) b rest e f) (content_long types s kind count offset own c left g)

pub items_go_on : (types : List TypeDesc) (s : Loading) (front : List Item) (count i : ℕ) (bytes : List ℕ)
    (b : ℕ) (rest : List ℕ) (item : Item) (behind : List ℕ) (total : Read (List Item)) → i < count
    → byte_at bytes ≡ Ok (b, rest) → eqb b 0 ≡ false → item_at types s bytes ≡ Ok (item, behind)
    → with_front front (items_at types (count - i) s bytes) ≡ total
    → with_front (front ++ item ∷ []) (items_at types (count - (i + 1)) (after types s item) behind) ≡ total
unfolding items_at
items_go_on types s front count i bytes b rest item behind total lt first some e so_far =
    let k : count - i ≡ suc (count - (i + 1)) = omega arith in
    let one : with_front front (items_at types (count - i) s bytes)
    ≡ with_front (front ++ item ∷ []) (items_at types (count - (i + 1)) (after types s item) behind) =
    rw (k, first, some, e) (regroup front item (items_at types (count - (i + 1)) (after types s item) behind)) in
    sym one ∙ so_far

pub items_end : (types : List TypeDesc) (s : Loading) (front : List Item) (count i : ℕ) (bytes : List ℕ)
    (b : ℕ) (rest : List ℕ) (total : Read (List Item)) → i < count
    → byte_at bytes ≡ Ok (b, rest) → eqb b 0 ≡ true
    → with_front front (items_at types (count - i) s bytes) ≡ total → total ≡ with_front front (end_at s bytes rest)
unfolding items_at
items_end types s front count i bytes b rest total lt first zero so_far =
    let k : count - i ≡ suc (count - (i + 1)) = omega arith in
    let one : with_front front (items_at types (count - i) s bytes) ≡ with_front front (end_at s bytes rest) =
    rw (k, first, zero) refl in
    sym so_far ∙ one

pub items_fail_byte : (types : List TypeDesc) (s : Loading) (e : ReadFault) (front : List Item) (count i : ℕ) (bytes : List ℕ)
    (total : Read (List Item)) → i < count → FailsAs e (byte_at bytes)
    → with_front front (items_at types (count - i) s bytes) ≡ total → FailsAs e total
unfolding items_at
items_fail_byte types s NoMemory front count i bytes total lt h so_far = tt
items_fail_byte types s (Refused r) front count i bytes total lt h so_far =
    let k : count - i ≡ suc (count - (i + 1)) = omega arith in
    let one : with_front front (items_at types (count - i) s bytes) ≡ Err r = rw (k, h) refl in
    sym so_far ∙ one

pub items_fail : (types : List TypeDesc) (s : Loading) (e : ReadFault) (front : List Item) (count i : ℕ) (bytes : List ℕ)
    (b : ℕ) (rest : List ℕ) (total : Read (List Item)) → i < count
    → byte_at bytes ≡ Ok (b, rest) → eqb b 0 ≡ false → FailsAs e (item_at types s bytes)
    → with_front front (items_at types (count - i) s bytes) ≡ total → FailsAs e total
unfolding items_at
items_fail types s NoMemory front count i bytes b rest total lt first some h so_far = tt
items_fail types s (Refused r) front count i bytes b rest total lt first some h so_far =
    let k : count - i ≡ suc (count - (i + 1)) = omega arith in
    let one : with_front front (items_at types (count - i) s bytes) ≡ Err r = rw (k, first, some, h) refl in
    sym so_far ∙ one

pub items_short : (types : List TypeDesc) (s : Loading) (front : List Item) (count i : ℕ) (bytes : List ℕ)
    (total : Read (List Item)) → count ≤ i
    → with_front front (items_at types (count - i) s bytes) ≡ total → total ≡ refused Short bytes
unfolding items_at
items_short types s front count i bytes total le so_far =
    let k : count - i ≡ 0 = omega arith in
    let one : with_front front (items_at types (count - i) s bytes) ≡ refused Short bytes = rw k refl in
    sym so_far ∙ one
