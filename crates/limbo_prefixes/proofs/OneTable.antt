-- The rows that are chosen for one operand are those of the table.
use Rattle.std.proofs.Common.{◌≡◌, ℕ, Bool, true, false, cond, List, [], ◌∷◌, Option, Some, None, refl, sym, ap, subst, ◌∙◌}
use Rattle.std.specs.Prelude.{slice_get}
use Rattle.limbo_values.specs.declared.number.Kind.{Kind}
use Rattle.limbo_values.specs.declared.number.Kind.TheVariants as kind
use Rattle.limbo_values.specs.declared.operator.Unary.{Unary}
use Rattle.limbo_types.specs.Types.{Ty, Byte, Int, Chars, Nil, ArrayOf, ListOf}
use Rattle.limbo_layout.specs.Adts.{Def, Variant}
use Rattle.limbo_tree.specs.declared.operators.UnaryOp.{UnaryOp}
use Rattle.limbo_tree.specs.declared.operators.UnaryOp.TheVariants as before
use Rattle.limbo_typed.specs.declared.operation.Sequence.{Sequence}
use Rattle.limbo_typed.specs.declared.operation.Sequence.TheVariants as sequence
use Rattle.limbo_typed.specs.declared.operation.Operation.TheVariants as op
use Rattle.limbo_typed.specs.Fitting.{of_kind, IsSequence, IsPick}
use Rattle.limbo_typed.specs.Sound.{IsSettled}
use Rattle.limbo_forms.specs.Forms.{kind_of, is_int, is_text, ref_of, sequence_of, is_byte, is_bytes, is_settled}
use Rattle.limbo_forms.specs.Forms.{choose}
use Rattle.limbo_operators.specs.Rows.{IsText}
use Rattle.limbo_prefixes.specs.Rows.{OneRow, one, UnaryRow, BytesRow, altering, converting}
use Rattle.limbo_prefixes.specs.Rows as rule
use Rattle.limbo_prefixes.specs.Choosing.{has_variants, is_pick, settled_item, is_byte_kind, convert_row, string_row, length_row, tag_row}
use Rattle.limbo_prefixes.specs.Choosing.{not_row, head_row, tail_row, other_row, alter_row, unary_row, bytes_row}
use Rattle.limbo_forms.proofs.Tests.{choose_some, if_some, kind_is, kind_found, int_is, settled_is, settled_true}
use Rattle.limbo_operators.proofs.Table.{text_is, text_found, text_no_kind, ref_is, ref_found}

altered_at : (defs : List Def) (o : UnaryOp) (u : Unary) (k : Kind) (t : Ty) → altering o ≡ Some u → t ≡ of_kind k
    → UnaryRow defs o t (one (of_kind k) (op.Alter u k) (of_kind k))
altered_at defs o u k t h f = rw f (rule.altered o u k h)

alter_given : (defs : List Def) (o : UnaryOp) (u : Unary) (t : Ty) (r : OneRow) → altering o ≡ Some u → alter_row u t ≡ Some r
    → UnaryRow defs o t r
alter_given defs o u t r h e =
    let k = choose_some (kind_of t) _ r e in
    let f : one (of_kind k.0) (op.Alter u k.0) (of_kind k.0) ≡ r = let g = k.2 in cc in
    subst (λ (z : OneRow). UnaryRow defs o t z) f (altered_at defs o u k.0 t h (kind_is t k.0 k.1))

converted_at : (defs : List Def) (o : UnaryOp) (from to : Kind) (t : Ty) → converting o ≡ Some to → t ≡ of_kind from
    → UnaryRow defs o t (one (of_kind from) (op.Convert from to) (of_kind to))
converted_at defs o from to t h f = rw f (rule.converted o from to h)

no_byte : (k : Kind) → is_byte_kind k ≡ false → k ≡ kind.Byte → ⊥
no_byte kind.Byte e h = absurd cc
no_byte kind.Int e h = absurd cc
no_byte kind.Big e h = absurd cc

byte_false : (k : Kind) → (k ≡ kind.Byte → ⊥) → is_byte_kind k ≡ false
byte_false kind.Byte h = absurd (h refl)
byte_false kind.Int h = refl
byte_false kind.Big h = refl

convert_given : (defs : List Def) (o : UnaryOp) (to : Kind) (t : Ty) (r : OneRow) → converting o ≡ Some to → convert_row to t ≡ Some r
    → UnaryRow defs o t r
convert_given defs o to t r h e = at_kind (kind_of t) refl e
  where
    at_byte : (b : Bool) → is_byte_kind to ≡ b → IsText t → cond b None (Some (one Chars (op.ReadNumber to) (of_kind to))) ≡ Some r
        → UnaryRow defs o t r
    at_byte true f p e = absurd cc
    at_byte false f p e =
        let g : one Chars (op.ReadNumber to) (of_kind to) ≡ r = cc in
        subst (λ (z : OneRow). UnaryRow defs o t z) g (rule.read_number o to t h (no_byte to f) p)

    at_text : (b : Bool) → is_text t ≡ b
        → cond b (cond (is_byte_kind to) None (Some (one Chars (op.ReadNumber to) (of_kind to)))) None ≡ Some r → UnaryRow defs o t r
    at_text true f e = at_byte (is_byte_kind to) refl (text_is t f) e
    at_text false f e = absurd cc

    at_kind : (k : Option Kind) → kind_of t ≡ k
        → choose k (cond (is_text t) (cond (is_byte_kind to) None (Some (one Chars (op.ReadNumber to) (of_kind to)))) None)
        (λ from. Some (one (of_kind from) (op.Convert from to) (of_kind to))) ≡ Some r
        → UnaryRow defs o t r
    at_kind (Some k) f e =
        let g : one (of_kind k) (op.Convert k to) (of_kind to) ≡ r = cc in
        subst (λ (z : OneRow). UnaryRow defs o t z) g (converted_at defs o k to t h (kind_is t k f))
    at_kind None f e = at_text (is_text t) refl e

byte_is : (t : Ty) → is_byte t ≡ true → t ≡ Byte
byte_is Byte e = refl
byte_is _ e = absurd cc

bytes_given : (defs : List Def) (t : Ty) → is_bytes t ≡ true → UnaryRow defs before.String t (one (ArrayOf Byte) op.BytesText Chars)
bytes_given defs (ArrayOf t) e =
    subst (λ (z : Ty). UnaryRow defs before.String (ArrayOf z) (one (ArrayOf Byte) op.BytesText Chars)) (sym (byte_is t e)) rule.bytes_text
bytes_given defs Nil e = rule.nil_text
bytes_given defs _ e = absurd cc

number_at : (defs : List Def) (k : Kind) (t : Ty) → t ≡ of_kind k
    → UnaryRow defs before.String t (one (of_kind k) (op.NumberText k) Chars)
number_at defs k t f = rw f (rule.number_text k)

string_given : (defs : List Def) (t : Ty) (r : OneRow) → string_row t ≡ Some r → UnaryRow defs before.String t r
string_given defs t r e = at_kind (kind_of t) refl e
  where
    at_kind : (k : Option Kind) → kind_of t ≡ k
        → choose k (cond (is_bytes t) (Some (one (ArrayOf Byte) op.BytesText Chars)) None)
        (λ k. Some (one (of_kind k) (op.NumberText k) Chars)) ≡ Some r
        → UnaryRow defs before.String t r
    at_kind (Some k) f e =
        let g : one (of_kind k) (op.NumberText k) Chars ≡ r = cc in
        subst (λ (z : OneRow). UnaryRow defs before.String t z) g (number_at defs k t (kind_is t k f))
    at_kind None f e =
        let p = if_some (is_bytes t) _ r e in
        subst (λ (z : OneRow). UnaryRow defs before.String t z) p.1 (bytes_given defs t p.0)

sequence_is : (t : Ty) (s : Sequence) → sequence_of t ≡ Some s → IsSequence s t
sequence_is Chars s e = let f : sequence.Chars ≡ s = cc in subst (λ (z : Sequence). IsSequence z Chars) f tt
sequence_is (ArrayOf t) s e = let f : sequence.Array ≡ s = cc in subst (λ (z : Sequence). IsSequence z (ArrayOf t)) f tt
sequence_is (ListOf t) s e = let f : sequence.List ≡ s = cc in subst (λ (z : Sequence). IsSequence z (ListOf t)) f tt
sequence_is _ s e = absurd cc

sequence_found : (s : Sequence) (t : Ty) → IsSequence s t → sequence_of t ≡ Some s
sequence_found sequence.Chars Chars h = refl
sequence_found sequence.Chars _ h = absurd h
sequence_found sequence.Array (ArrayOf t) h = refl
sequence_found sequence.Array _ h = absurd h
sequence_found sequence.List (ListOf t) h = refl
sequence_found sequence.List _ h = absurd h

length_given : (defs : List Def) (t : Ty) (r : OneRow) → length_row t ≡ Some r → UnaryRow defs before.Len t r
length_given defs t r e =
    let s = choose_some (sequence_of t) _ r e in
    let p = if_some (is_settled t) _ r s.2 in
    subst (λ (z : OneRow). UnaryRow defs before.Len t z) p.1 (rule.UnaryRow.length s.0 t (sequence_is t s.0 s.1) (settled_is t p.0))

pick_is : (defs : List Def) (n : ℕ) → is_pick defs n ≡ true → IsPick defs n
pick_is defs n e = at_def (slice_get defs n) refl e
  where
    some : (vs : List Variant) → has_variants vs ≡ true → vs ≡ [] → ⊥
    some [] e h = absurd cc
    some (v ∷ vs) e h = absurd cc

    at_def : (d : Option Def) → slice_get defs n ≡ d → choose d false (λ d. has_variants d.picks) ≡ true → IsPick defs n
    at_def (Some d) f e = record { def = d; there = f; variants = some d.picks e }
    at_def None f e = absurd cc

variants_true : (vs : List Variant) → (vs ≡ [] → ⊥) → has_variants vs ≡ true
variants_true [] h = absurd (h refl)
variants_true (v ∷ vs) h = refl

pick_found : (defs : List Def) (n : ℕ) → IsPick defs n → is_pick defs n ≡ true
pick_found defs n p = rw p.there (variants_true p.def.picks p.variants)

tag_given : (defs : List Def) (t : Ty) (r : OneRow) → tag_row defs t ≡ Some r → UnaryRow defs before.Tagof t r
tag_given defs t r e =
    let n = choose_some (ref_of t) _ r e in
    let p = if_some (is_pick defs n.0) _ r n.2 in
    subst (λ (z : OneRow). UnaryRow defs before.Tagof t z) p.1 (rule.tag n.0 t (ref_is t n.0 n.1) (pick_is defs n.0 p.0))

item_settled : (t i : Ty) → settled_item t ≡ Some i → (t ≡ ListOf i) × IsSettled i
item_settled (ListOf t) i e =
    let p = if_some (is_settled t) t i e in
    (ap ListOf p.1, subst (λ (z : Ty). IsSettled z) p.1 (settled_is t p.0))
item_settled Nil i e = absurd cc
item_settled _ i e = absurd cc

item_found : (t : Ty) → IsSettled t → settled_item (ListOf t) ≡ Some t
item_found t h = rw (settled_true t h) refl

head_given : (defs : List Def) (t : Ty) (r : OneRow) → head_row t ≡ Some r → UnaryRow defs before.Hd t r
head_given defs t r e =
    let i = choose_some (settled_item t) _ r e in
    let p = item_settled t i.0 i.1 in
    let f : one (ListOf i.0) op.Head i.0 ≡ r = let g = i.2 in cc in
    subst (λ (z : OneRow). UnaryRow defs before.Hd t z) f
    (subst (λ (z : Ty). UnaryRow defs before.Hd z (one (ListOf i.0) op.Head i.0)) (sym p.0) (rule.head i.0 p.1))

tail_given : (defs : List Def) (t : Ty) (r : OneRow) → tail_row t ≡ Some r → UnaryRow defs before.Tl t r
tail_given defs t r e =
    let i = choose_some (settled_item t) _ r e in
    let p = item_settled t i.0 i.1 in
    let f : one (ListOf i.0) op.Tail (ListOf i.0) ≡ r = let g = i.2 in cc in
    subst (λ (z : OneRow). UnaryRow defs before.Tl t z) f
    (subst (λ (z : Ty). UnaryRow defs before.Tl z (one (ListOf i.0) op.Tail (ListOf i.0))) (sym p.0) (rule.tail i.0 p.1))

not_given : (defs : List Def) (t : Ty) (r : OneRow) → not_row t ≡ Some r → UnaryRow defs before.Not t r
not_given defs t r e =
    let p = if_some (is_int t) _ r e in
    subst (λ (z : OneRow). UnaryRow defs before.Not t z) p.1
    (subst (λ (z : Ty). UnaryRow defs before.Not z (one Int op.Not Int)) (sym (int_is t p.0)) rule.denied)

other_given : (defs : List Def) (o : UnaryOp) (t : Ty) (r : OneRow) → other_row defs o t ≡ Some r → UnaryRow defs o t r
other_given defs before.Not t r e = not_given defs t r e
other_given defs before.Hd t r e = head_given defs t r e
other_given defs before.Tl t r e = tail_given defs t r e
other_given defs before.Len t r e = length_given defs t r e
other_given defs before.Tagof t r e = tag_given defs t r e
other_given defs before.String t r e = string_given defs t r e
other_given defs _ t r e = absurd cc

pub unary_given : (defs : List Def) (o : UnaryOp) (t : Ty) (r : OneRow) → unary_row defs o t ≡ Some r → UnaryRow defs o t r
unary_given defs o t r e = at_alter (altering o) refl e
  where
    at_convert : (k : Option Kind) → converting o ≡ k → choose k (other_row defs o t) (λ to. convert_row to t) ≡ Some r
        → UnaryRow defs o t r
    at_convert (Some to) h e = convert_given defs o to t r h e
    at_convert None h e = other_given defs o t r e

    at_alter : (u : Option Unary) → altering o ≡ u
        → choose u (choose (converting o) (other_row defs o t) (λ to. convert_row to t)) (λ u. alter_row u t) ≡ Some r
        → UnaryRow defs o t r
    at_alter (Some u) h e = alter_given defs o u t r h e
    at_alter None h e = at_convert (converting o) refl e

no_alter : (o : UnaryOp) (k : Kind) → converting o ≡ Some k → altering o ≡ None
no_alter before.Byte k e = refl
no_alter before.Int k e = refl
no_alter before.Big k e = refl
no_alter _ k e = absurd cc

pub unary_found : (defs : List Def) (o : UnaryOp) (t : Ty) (r : OneRow) → UnaryRow defs o t r → unary_row defs o t ≡ Some r
unary_found defs _ _ _ (rule.altered o u k h) = rw (h, kind_found k) refl
unary_found defs _ _ _ rule.denied = refl
unary_found defs _ _ _ (rule.head t h) = rw (item_found t h) refl
unary_found defs _ _ _ (rule.tail t h) = rw (item_found t h) refl
unary_found defs _ _ _ (rule.UnaryRow.length s t h k) = rw (sequence_found s t h, settled_true t k) refl
unary_found defs _ _ _ (rule.tag n t h p) = rw (ref_found t n h, pick_found defs n p) refl
unary_found defs _ _ _ (rule.converted o from to h) = rw (no_alter o to h, h, kind_found from) refl
unary_found defs _ _ _ (rule.read_number o to t h n p) =
    rw (no_alter o to h, h, text_no_kind t p, text_found t p, byte_false to n) refl
unary_found defs _ _ _ (rule.number_text k) = rw (kind_found k) refl
unary_found defs _ _ _ rule.bytes_text = refl
unary_found defs _ _ _ rule.nil_text = refl

pub unary_once : (defs : List Def) (o : UnaryOp) (t : Ty) (r s : OneRow) → UnaryRow defs o t r → UnaryRow defs o t s → r ≡ s
unary_once defs o t r s p q = let f : Some r ≡ Some s = sym (unary_found defs o t r p) ∙ unary_found defs o t s q in cc

pub bytes_row_given : (t : Ty) (r : OneRow) → bytes_row t ≡ Some r → BytesRow t r
bytes_row_given t r e =
    let p = if_some (is_text t) _ r e in
    subst (λ (z : OneRow). BytesRow t z) p.1 (rule.text_bytes t (text_is t p.0))

pub bytes_row_found : (t : Ty) (r : OneRow) → BytesRow t r → bytes_row t ≡ Some r
bytes_row_found _ _ (rule.text_bytes t h) = rw (text_found t h) refl
