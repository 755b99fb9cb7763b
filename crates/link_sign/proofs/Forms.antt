-- The pieces of each form: the bytes that are written first, and the items that are left.
use Rattle.std.proofs.Common.{◌≡◌, ℕ, List, [], ◌∷◌, ◌++◌, map, codes, encode_utf8_all, refl, sym, ap, ◌∙◌, append_assoc}
use Rattle.std.proofs.lemmas.List.{append-nil}
use Rattle.std.specs.Fmt.{decimal}
use Rattle.limbo_types.specs.Types.{Ty, Tuple, RefPick, Module}
use Rattle.limbo_types.specs.View.{tys_of}
use Rattle.limbo_layout.specs.Adts.{Field, Variant}
use Rattle.link_sign.specs.TypeText.{Letter, Whole, letters, word, pieces, all_pieces, with_commas, after_commas, fields_pieces, variants_pieces, name_at}
use Rattle.link_sign.specs.Drafts.{ThePiece, TheType, TheTypes, TheFields, TheVariants, listed, to_write}
use Rattle.link_sign.proofs.Drafts.{to_write-append, letters-append}

-- a letter, and a type
pub letter_before : (modules : List (List ℕ)) (c : ℕ) (t : Ty) → (Letter c ∷ pieces modules t) ≡ letters (c ∷ []) ++ to_write modules (TheType t ∷ [])
letter_before modules c t = ap (λ z. Letter c ∷ z) (sym (append-nil (pieces modules t)))

pub each_pieces : (modules : List (List ℕ)) (ts : List Ty) → all_pieces modules (tys_of ts) ≡ map (pieces modules) ts
each_pieces modules [] = refl
each_pieces modules (t ∷ ts) = ap (λ z. pieces modules t ∷ z) (each_pieces modules ts)

pub listed_pieces : (modules : List (List ℕ)) (ts : List Ty) → to_write modules (listed ts) ≡ with_commas (map (pieces modules) ts)
listed_pieces modules [] = refl
listed_pieces modules (t ∷ ts) = ap (λ z. pieces modules t ++ z) (append-nil (after_commas (map (pieces modules) ts)))

pub tuple_form : (modules : List (List ℕ)) (ts : List Ty)
    → pieces modules (Tuple (tys_of ts)) ≡ letters (codes "(") ++ to_write modules (ThePiece (Letter 41) ∷ listed ts)
tuple_form modules ts =
    ap (λ z. Letter 40 ∷ z) (
    ap (λ z. with_commas z ++ (Letter 41 ∷ [])) (each_pieces modules ts)
    ∙ ap (λ z. z ++ (Letter 41 ∷ [])) (sym (listed_pieces modules ts))
    ∙ sym (to_write-append modules (ThePiece (Letter 41) ∷ []) (listed ts)))

pub variant_form : (modules : List (List ℕ)) (n v : ℕ)
    → pieces modules (RefPick n v) ≡ letters (codes "V" ++ (decimal v ++ codes ";")) ++ to_write modules (ThePiece (Whole n) ∷ [])
variant_form modules n v =
    ap (λ z. Letter 86 ∷ z) (sym (ap (λ z. z ++ (Whole n ∷ [])) (letters-append (decimal v) (codes ";")) ∙ append_assoc (letters (decimal v)) (letters (codes ";")) (Whole n ∷ [])))

pub module_form : (modules : List (List ℕ)) (n : ℕ)
    → pieces modules (Module n) ≡ letters (codes "M" ++ (encode_utf8_all (name_at modules n) ++ codes ";")) ++ to_write modules []
module_form modules n =
    ap (λ z. Letter 77 ∷ z) (sym (append-nil (letters (encode_utf8_all (name_at modules n) ++ codes ";")) ∙ letters-append (encode_utf8_all (name_at modules n)) (codes ";")))

pub types_form : (modules : List (List ℕ)) (t : Ty) (ts : List Ty)
    → after_commas (map (pieces modules) (t ∷ ts)) ≡ letters (codes ",") ++ to_write modules (TheTypes ts ∷ TheType t ∷ [])
types_form modules t ts = ap (λ z. Letter 44 ∷ (pieces modules t ++ z)) (sym (append-nil (after_commas (map (pieces modules) ts))))

pub fields_form : (modules : List (List ℕ)) (f : Field) (fs : List Field)
    → fields_pieces modules (f ∷ fs) ≡ letters (encode_utf8_all f.name ++ codes ":") ++ to_write modules (TheFields fs ∷ ThePiece (Letter 59) ∷ TheType f.ty ∷ [])
fields_form modules f fs =
    let name = word f.name in
    let ty = pieces modules f.ty in
    let more = fields_pieces modules fs in
    append_assoc name (Letter 58 ∷ (ty ++ (Letter 59 ∷ []))) more
    ∙ ap (λ z. name ++ (Letter 58 ∷ z)) (append_assoc ty (Letter 59 ∷ []) more ∙ ap (λ z. ty ++ (Letter 59 ∷ z)) (sym (append-nil more)))
    ∙ sym (append_assoc name (Letter 58 ∷ []) (ty ++ (Letter 59 ∷ (more ++ []))))
    ∙ ap (λ z. z ++ (ty ++ (Letter 59 ∷ (more ++ [])))) (sym (letters-append (encode_utf8_all f.name) (codes ":")))

pub variants_form : (modules : List (List ℕ)) (v : Variant) (vs : List Variant)
    → variants_pieces modules (v ∷ vs) ≡ letters (codes "|" ++ (encode_utf8_all v.name ++ codes "{"))
    ++ to_write modules (TheVariants vs ∷ ThePiece (Letter 125) ∷ TheFields v.fields ∷ [])
variants_form modules v vs =
    let name = word v.name in
    let own = fields_pieces modules v.fields in
    let more = variants_pieces modules vs in
    ap (λ z. Letter 124 ∷ z) (
    append_assoc name (Letter 123 ∷ (own ++ (Letter 125 ∷ []))) more
    ∙ ap (λ z. name ++ (Letter 123 ∷ z)) (append_assoc own (Letter 125 ∷ []) more ∙ ap (λ z. own ++ (Letter 125 ∷ z)) (sym (append-nil more)))
    ∙ sym (append_assoc name (Letter 123 ∷ []) (own ++ (Letter 125 ∷ (more ++ []))))
    ∙ ap (λ z. z ++ (own ++ (Letter 125 ∷ (more ++ [])))) (sym (letters-append (encode_utf8_all v.name) (codes "{"))))
