-- The rows of the table as functions; that they give the rows that the table has is proved of them.
use Rattle.std.specs.Prelude.{ℕ, Bool, true, false, List, [], ◌∷◌, Option, None, Some, slice_get, if◌then◌else◌}
use Rattle.limbo_values.specs.declared.number.Kind.{Kind}
use Rattle.limbo_values.specs.declared.number.Kind.TheVariants as kind
use Rattle.limbo_values.specs.declared.operator.Unary.{Unary}
use Rattle.limbo_types.specs.Types.{Ty, Byte, Int, Chars, ArrayOf, ListOf}
use Rattle.limbo_layout.specs.Adts.{Def, Variant}
use Rattle.limbo_tree.specs.declared.operators.UnaryOp.{UnaryOp}
use Rattle.limbo_tree.specs.declared.operators.UnaryOp.TheVariants as before
use Rattle.limbo_typed.specs.declared.operation.Operation.TheVariants as op
use Rattle.limbo_typed.specs.Fitting.{of_kind}
use Rattle.limbo_forms.specs.Forms.{choose, kind_of, is_int, is_text, ref_of, item_of, sequence_of, is_bytes, is_settled}
use Rattle.limbo_prefixes.specs.Rows.{OneRow, one, altering, converting}

abbrev pub has_variants : List Variant → Bool
has_variants [] = false
has_variants (v ∷ vs) = true

abbrev pub is_pick : List Def → ℕ → Bool
is_pick defs n = choose (slice_get defs n) false (λ d. has_variants d.picks)

abbrev pub settled_item : Ty → Option Ty
settled_item t = choose (item_of t) None (λ i. if is_settled i then Some i else None)

abbrev pub is_byte_kind : Kind → Bool
is_byte_kind kind.Byte = true
is_byte_kind _ = false

-- a conversion to a kind
abbrev pub convert_row : Kind → Ty → Option OneRow
convert_row to t =
    choose (kind_of t)
    (if is_text t then if is_byte_kind to then None else Some (one Chars (op.ReadNumber to) (of_kind to)) else None)
    (λ from. Some (one (of_kind from) (op.Convert from to) (of_kind to)))

abbrev pub string_row : Ty → Option OneRow
string_row t =
    choose (kind_of t) (if is_bytes t then Some (one (ArrayOf Byte) op.BytesText Chars) else None)
    (λ k. Some (one (of_kind k) (op.NumberText k) Chars))

abbrev pub length_row : Ty → Option OneRow
length_row t = choose (sequence_of t) None (λ s. if is_settled t then Some (one t (op.Length s) Int) else None)

abbrev pub tag_row : List Def → Ty → Option OneRow
tag_row defs t = choose (ref_of t) None (λ n. if is_pick defs n then Some (one t op.Tag Int) else None)

abbrev pub not_row : Ty → Option OneRow
not_row t = if is_int t then Some (one Int op.Not Int) else None

abbrev pub head_row : Ty → Option OneRow
head_row t = choose (settled_item t) None (λ i. Some (one (ListOf i) op.Head i))

abbrev pub tail_row : Ty → Option OneRow
tail_row t = choose (settled_item t) None (λ i. Some (one (ListOf i) op.Tail (ListOf i)))

abbrev pub other_row : List Def → UnaryOp → Ty → Option OneRow
other_row defs before.Not t = not_row t
other_row defs before.Hd t = head_row t
other_row defs before.Tl t = tail_row t
other_row defs before.Len t = length_row t
other_row defs before.Tagof t = tag_row defs t
other_row defs before.String t = string_row t
other_row defs _ t = None

abbrev pub alter_row : Unary → Ty → Option OneRow
alter_row u t = choose (kind_of t) None (λ k. Some (one (of_kind k) (op.Alter u k) (of_kind k)))

abbrev pub unary_row : List Def → UnaryOp → Ty → Option OneRow
unary_row defs o t = choose (altering o) (choose (converting o) (other_row defs o t) (λ to. convert_row to t)) (λ u. alter_row u t)

abbrev pub bytes_row : Ty → Option OneRow
bytes_row t = if is_text t then Some (one Chars op.TextBytes (ArrayOf Byte)) else None
