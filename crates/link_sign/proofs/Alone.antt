-- What holds of texts of functions: equal types have one text, and no text is that of a print.
use Rattle.std.proofs.Common.{◌≡◌, ℕ, ◌⊎◌, inl, inr, true, List, [], ◌∷◌, ◌++◌, map, codes, refl, sym, ap, ◌∙◌, subst, arith, append_assoc}
use Rattle.limbo_types.specs.Types.{Ty, Tys, FnTy, Byte, Int, Big, Chars, Nothing, Nil, ArrayOf, ListOf, ChanOf, Tuple, Adt, RefAdt, RefPick, Module, NoTys}
use Rattle.limbo_types.specs.View.{tys_of}
use Rattle.limbo_types.specs.Same.{all_same}
use Rattle.limbo_types.proofs.Same as types
use Rattle.limbo_layout.specs.Adts.{Def, listed}
use Rattle.link_sign.specs.TypeText.{Piece, Letter, Whole, letters, pieces, with_commas, after_commas, fields_pieces, variants_pieces, adt_pieces, adt_at, fn_pieces, repeated, Spells, ends, writes, opens, repeats, IsText}
use Rattle.link_sign.specs.Computed.{text_of}
use Rattle.link_sign.specs.Signature.{fold}
use Rattle.link_sign.specs.Laws.{SameTypesOneText, OneSignature, NoneIsPrint}
use Rattle.link_sign.proofs.Texts.{only, each_has_text}

-- ---- equal types

parts : Ty → Tys
parts (Tuple ts) = ts
parts t = NoTys

listed_back : (ts : List Ty) → listed (tys_of ts) ≡ ts
listed_back [] = refl
listed_back (t ∷ ts) = ap (λ z. t ∷ z) (listed_back ts)

same_lists : (ts us : List Ty) → all_same (tys_of ts) (tys_of us) ≡ true → ts ≡ us
unfolding parts
same_lists ts us h = sym (listed_back ts) ∙ ap (λ z. listed (parts z)) (types.only (Tuple (tys_of ts)) (Tuple (tys_of us)) h) ∙ listed_back us

pub same_types_one_text : SameTypesOneText
same_types_one_text defs modules f g s t h r x y =
    let args = same_lists f.args g.args h in
    let answer = types.only f.answer g.answer r in
    let pieces_same : fn_pieces modules g ≡ fn_pieces modules f =
    sym (ap (λ z. letters (codes "f(") ++ (with_commas (map (pieces modules) z) ++ (letters (codes ")") ++ pieces modules f.answer))) args
    ∙ ap (λ z. letters (codes "f(") ++ (with_commas (map (pieces modules) g.args) ++ (letters (codes ")") ++ pieces modules z))) answer) in
    only defs modules [] (fn_pieces modules f) s t x (subst (λ z. Spells defs modules [] z t) pieces_same y)

pub one_signature : OneSignature
one_signature defs modules f sign h = h.folded ∙ ap fold (only defs modules [] (fn_pieces modules f) h.text (text_of defs modules f) h.is_text (each_has_text defs modules f))

-- ---- the prints

-- what a type's text begins with
abbrev Begins : Ty → ℕ → Type 0
Begins Byte c = c ≡ 98
Begins Int c = c ≡ 105
Begins Big c = c ≡ 66
Begins Chars c = c ≡ 115
Begins Nothing c = c ≡ 110
Begins Nil c = c ≡ 78
Begins (ArrayOf t) c = c ≡ 65
Begins (ListOf t) c = c ≡ 76
Begins (ChanOf t) c = c ≡ 67
Begins (Tuple ts) c = c ≡ 40
Begins (Adt n) c = (c ≡ 97) ⊎ (c ≡ 64)
Begins (RefAdt n) c = c ≡ 82
Begins (RefPick n v) c = c ≡ 86
Begins (Module n) c = c ≡ 77

no_star : (t : Ty) → Begins t 42 → ⊥
no_star Byte h = omega arith
no_star Int h = omega arith
no_star Big h = omega arith
no_star Chars h = omega arith
no_star Nothing h = omega arith
no_star Nil h = omega arith
no_star (ArrayOf t) h = omega arith
no_star (ListOf t) h = omega arith
no_star (ChanOf t) h = omega arith
no_star (Tuple ts) h = omega arith
no_star (Adt n) (inl h) = omega arith
no_star (Adt n) (inr h) = omega arith
no_star (RefAdt n) h = omega arith
no_star (RefPick n v) h = omega arith
no_star (Module n) h = omega arith

is_chars : (t : Ty) → Begins t 115 → t ≡ Chars
is_chars Byte h = absurd (omega arith)
is_chars Int h = absurd (omega arith)
is_chars Big h = absurd (omega arith)
is_chars Chars h = refl
is_chars Nothing h = absurd (omega arith)
is_chars Nil h = absurd (omega arith)
is_chars (ArrayOf t) h = absurd (omega arith)
is_chars (ListOf t) h = absurd (omega arith)
is_chars (ChanOf t) h = absurd (omega arith)
is_chars (Tuple ts) h = absurd (omega arith)
is_chars (Adt n) (inl h) = absurd (omega arith)
is_chars (Adt n) (inr h) = absurd (omega arith)
is_chars (RefAdt n) h = absurd (omega arith)
is_chars (RefPick n v) h = absurd (omega arith)
is_chars (Module n) h = absurd (omega arith)

is_ref : (t : Ty) → Begins t 82 → (n : ℕ) × (t ≡ RefAdt n)
is_ref Byte h = absurd (omega arith)
is_ref Int h = absurd (omega arith)
is_ref Big h = absurd (omega arith)
is_ref Chars h = absurd (omega arith)
is_ref Nothing h = absurd (omega arith)
is_ref Nil h = absurd (omega arith)
is_ref (ArrayOf t) h = absurd (omega arith)
is_ref (ListOf t) h = absurd (omega arith)
is_ref (ChanOf t) h = absurd (omega arith)
is_ref (Tuple ts) h = absurd (omega arith)
is_ref (Adt n) (inl h) = absurd (omega arith)
is_ref (Adt n) (inr h) = absurd (omega arith)
is_ref (RefAdt n) h = (n, refl)
is_ref (RefPick n v) h = absurd (omega arith)
is_ref (Module n) h = absurd (omega arith)

-- a text that ends in what pieces spell
record Split (defs : List Def) (modules : List (List ℕ)) (qs : List Piece) (t : List ℕ) : Type 0 where
  opened : List ℕ
  front : List ℕ
  back : List ℕ
  joined : t ≡ front ++ back
  spelled : Spells defs modules opened qs back

module _ (defs : List Def) (modules : List (List ℕ)) where
  -- a letter is the first of the text
  letter : (o : List ℕ) (c d : ℕ) (ps : List Piece) (t u : List ℕ) → Spells defs modules o (Letter c ∷ ps) t → t ≡ d ∷ u → (d ≡ c) × Spells defs modules o ps u
  letter o c d ps _ u (writes _ _ _ v x) e = (cc, let same : v ≡ u = cc in subst (λ z. Spells defs modules o ps z) same x)

  whole_begins : (o : List ℕ) (n d : ℕ) (ps : List Piece) (t u : List ℕ) → Spells defs modules o (Whole n ∷ ps) t → t ≡ d ∷ u → (d ≡ 97) ⊎ (d ≡ 64)
  whole_begins o n d ps t u (opens _ _ _ _ h x) e = inl (letter (o ++ n ∷ []) 97 d _ t u x e).0
  whole_begins o n d ps _ u (repeats _ _ k _ v h x) e = inr (let first : 64 ≡ d = cc in sym first)

  begins : (o : List ℕ) (t : Ty) (ps : List Piece) (s : List ℕ) (d : ℕ) (u : List ℕ) → Spells defs modules o (pieces modules t ++ ps) s → s ≡ d ∷ u → Begins t d
  begins o Byte ps s d u x e = (letter o 98 d _ s u x e).0
  begins o Int ps s d u x e = (letter o 105 d _ s u x e).0
  begins o Big ps s d u x e = (letter o 66 d _ s u x e).0
  begins o Chars ps s d u x e = (letter o 115 d _ s u x e).0
  begins o Nothing ps s d u x e = (letter o 110 d _ s u x e).0
  begins o Nil ps s d u x e = (letter o 78 d _ s u x e).0
  begins o (ArrayOf t) ps s d u x e = (letter o 65 d _ s u x e).0
  begins o (ListOf t) ps s d u x e = (letter o 76 d _ s u x e).0
  begins o (ChanOf t) ps s d u x e = (letter o 67 d _ s u x e).0
  begins o (Tuple ts) ps s d u x e = (letter o 40 d _ s u x e).0
  begins o (Adt n) ps s d u x e = whole_begins o n d ps s u x e
  begins o (RefAdt n) ps s d u x e = (letter o 82 d _ s u x e).0
  begins o (RefPick n v) ps s d u x e = (letter o 86 d _ s u x e).0
  begins o (Module n) ps s d u x e = (letter o 77 d _ s u x e).0

  -- no argument begins with a star
  no_star_behind : (o : List ℕ) (ts : List Ty) (ps : List Piece) (t u : List ℕ)
      → Spells defs modules o (after_commas (map (pieces modules) ts) ++ (Letter 41 ∷ ps)) t → t ≡ 44 ∷ 42 ∷ u → ⊥
  no_star_behind o [] ps t u x e = omega (arith, (letter o 41 44 ps t (42 ∷ u) x e).0)
  no_star_behind o (a ∷ ts) ps t u x e =
      let y = (letter o 44 44 _ t (42 ∷ u) x e).1 in
      let z = subst (λ q. Spells defs modules o q (42 ∷ u)) (append_assoc (pieces modules a) (after_commas (map (pieces modules) ts)) (Letter 41 ∷ ps)) y in
      no_star a (begins o a _ (42 ∷ u) 42 u z refl)

  -- no function has a string and then a star as its arguments
  no_string_star : (o : List ℕ) (ts : List Ty) (ps : List Piece) (t u : List ℕ)
      → Spells defs modules o (with_commas (map (pieces modules) ts) ++ (Letter 41 ∷ ps)) t → t ≡ 115 ∷ 44 ∷ 42 ∷ u → ⊥
  no_string_star o [] ps t u x e = omega (arith, (letter o 41 115 ps t (44 ∷ 42 ∷ u) x e).0)
  no_string_star o (a ∷ ts) ps t u x e =
      let y = subst (λ q. Spells defs modules o q t) (append_assoc (pieces modules a) (after_commas (map (pieces modules) ts)) (Letter 41 ∷ ps)) x in
      let string = is_chars a (begins o a _ t 115 (44 ∷ 42 ∷ u) y e) in
      let z = subst (λ b. Spells defs modules o (pieces modules b ++ (after_commas (map (pieces modules) ts) ++ (Letter 41 ∷ ps))) t) string y in
      no_star_behind o ts ps (44 ∷ 42 ∷ u) u (letter o 115 115 _ t (44 ∷ 42 ∷ u) z e).1 refl

  -- the same behind a first argument
  no_string_star_behind : (o : List ℕ) (ts : List Ty) (ps : List Piece) (t u : List ℕ)
      → Spells defs modules o (after_commas (map (pieces modules) ts) ++ (Letter 41 ∷ ps)) t → t ≡ 44 ∷ 115 ∷ 44 ∷ 42 ∷ u → ⊥
  no_string_star_behind o [] ps t u x e = omega (arith, (letter o 41 44 ps t (115 ∷ 44 ∷ 42 ∷ u) x e).0)
  no_string_star_behind o (a ∷ ts) ps t u x e =
      let y = (letter o 44 44 _ t (115 ∷ 44 ∷ 42 ∷ u) x e).1 in
      no_string_star o (a ∷ ts) ps (115 ∷ 44 ∷ 42 ∷ u) u y refl

  -- what is spelled by pieces and others behind them ends in what those spell
  split : (o : List ℕ) (rs : List Piece) (t : List ℕ) → Spells defs modules o rs t → (ps qs : List Piece) → rs ≡ ps ++ qs → Split defs modules qs t
  split o rs t x [] qs e = record { opened = o; front = []; back = t; joined = refl; spelled = subst (λ z. Spells defs modules o z t) e x }
  split o _ _ (ends _) (p ∷ ps) qs e = absurd (cc)
  split o _ _ (writes _ c rs t x) (p ∷ ps) qs e =
      let r = split o rs t x ps qs (let tail : rs ≡ ps ++ qs = cc in tail) in
      record { opened = r.opened; front = c ∷ r.front; back = r.back; joined = ap (λ z. c ∷ z) r.joined; spelled = r.spelled }
  split o _ t (opens _ n rs _ h x) (p ∷ ps) qs e =
      let tail : rs ≡ ps ++ qs = cc in
      let own = adt_pieces modules (adt_at defs n) in
      split (o ++ n ∷ []) (own ++ rs) t x (own ++ ps) qs (ap (λ z. own ++ z) tail ∙ sym (append_assoc own ps qs))
  split o _ _ (repeats _ n k rs t h x) (p ∷ ps) qs e =
      let r = split o rs t x ps qs (let tail : rs ≡ ps ++ qs = cc in tail) in
      record { opened = r.opened; front = repeated k ++ r.front; back = r.back; joined = ap (λ z. repeated k ++ z) r.joined ∙ sym (append_assoc (repeated k) r.front r.back); spelled = r.spelled }

  -- a letter, and what is spelled behind it
  letter_is : (o : List ℕ) (c : ℕ) (ps : List Piece) (t : List ℕ) → Spells defs modules o (Letter c ∷ ps) t → (u : List ℕ) × (t ≡ c ∷ u) × Spells defs modules o ps u
  letter_is o c ps _ (writes _ _ _ u x) = (u, refl, x)

  -- a text that begins as an adt opens one
  is_opened : (o : List ℕ) (n : ℕ) (ps : List Piece) (t u : List ℕ) → Spells defs modules o (Whole n ∷ ps) t → t ≡ 97 ∷ u
      → Spells defs modules (o ++ n ∷ []) (adt_pieces modules (adt_at defs n) ++ ps) t
  is_opened o n ps t u (opens _ _ _ _ h x) e = x
  is_opened o n ps _ u (repeats _ _ k _ v h x) e = absurd (let no : ◌≡◌ {A = ℕ} 64 97 = cc in omega (arith, no))

-- what stands behind the one brace that closes
abbrev behind_fd : List ℕ
behind_fd = 44 ∷ 115 ∷ 44 ∷ 42 ∷ 41 ∷ 105 ∷ []

skip : (c : ℕ) (cs a v : List ℕ) → (c ≡ 125 → ⊥) → c ∷ cs ≡ a ++ 125 ∷ v → (b : List ℕ) × (cs ≡ b ++ 125 ∷ v)
skip c cs [] v other e = absurd (other (cc))
skip c cs (x ∷ xs) v other e = (xs, cc)

no_brace : (a v : List ℕ) → behind_fd ≡ a ++ 125 ∷ v → ⊥
no_brace a v e =
    let s = skip 44 _ a v (λ h. omega arith) e in
    let s2 = skip 115 _ s.0 v (λ h. omega arith) s.1 in
    let s3 = skip 44 _ s2.0 v (λ h. omega arith) s2.1 in
    let s4 = skip 42 _ s3.0 v (λ h. omega arith) s3.1 in
    let s5 = skip 41 _ s4.0 v (λ h. omega arith) s4.1 in
    let s6 = skip 105 [] s5.0 v (λ h. omega arith) s5.1 in
    none s6.0 s6.1
  where
    none : (b : List ℕ) → [] ≡ b ++ 125 ∷ v → ⊥
    none [] e = cc
    none (x ∷ xs) e = cc

brace : (a v : List ℕ) → 102 ∷ 100 ∷ 58 ∷ 105 ∷ 59 ∷ 125 ∷ behind_fd ≡ a ++ 125 ∷ v → v ≡ behind_fd
brace a v e =
    let s = skip 102 _ a v (λ h. omega arith) e in
    let s2 = skip 100 _ s.0 v (λ h. omega arith) s.1 in
    let s3 = skip 58 _ s2.0 v (λ h. omega arith) s2.1 in
    let s4 = skip 105 _ s3.0 v (λ h. omega arith) s3.1 in
    let s5 = skip 59 _ s4.0 v (λ h. omega arith) s4.1 in
    here s5.0 s5.1
  where
    here : (b : List ℕ) → 125 ∷ behind_fd ≡ b ++ 125 ∷ v → v ≡ behind_fd
    here [] e = cc
    here (x ∷ xs) e = absurd (no_brace xs v (let tail : behind_fd ≡ xs ++ 125 ∷ v = cc in tail))

module _ (defs : List Def) (modules : List (List ℕ)) where
  -- what is spelled behind the brace of an adt of one field `fd`
  behind_brace : (o : List ℕ) (fs vs ms : List Piece) (t : List ℕ) → Spells defs modules o ((fs ++ (vs ++ (Letter 125 ∷ []))) ++ ms) t
      → t ≡ 102 ∷ 100 ∷ 58 ∷ 105 ∷ 59 ∷ 125 ∷ behind_fd → (p : List ℕ) × Spells defs modules p ms behind_fd
  behind_brace o fs vs ms t x e =
      let cut : (fs ++ (vs ++ (Letter 125 ∷ []))) ++ ms ≡ (fs ++ vs) ++ (Letter 125 ∷ ms) =
      append_assoc fs (vs ++ (Letter 125 ∷ [])) ms ∙ ap (λ q. fs ++ q) (append_assoc vs (Letter 125 ∷ []) ms) ∙ sym (append_assoc fs vs (Letter 125 ∷ ms)) in
      let r = split defs modules o _ t x (fs ++ vs) (Letter 125 ∷ ms) cut in
      let l = letter_is defs modules r.opened 125 ms r.back r.spelled in
      (r.opened, subst (λ z. Spells defs modules r.opened ms z) (brace r.front l.0 (sym e ∙ r.joined ∙ ap (λ q. r.front ++ q) l.1)) l.2)

  -- the same of an adt that is opened
  behind_adt : (o : List ℕ) (n : ℕ) (ms : List Piece) (t : List ℕ) → Spells defs modules o (Whole n ∷ ms) t
      → t ≡ 97 ∷ 123 ∷ 102 ∷ 100 ∷ 58 ∷ 105 ∷ 59 ∷ 125 ∷ behind_fd → (p : List ℕ) × Spells defs modules p ms behind_fd
  behind_adt o n ms t x e =
      let p = o ++ n ∷ [] in
      let d = adt_at defs n in
      let y = (letter defs modules p 97 97 _ t _ (is_opened defs modules o n ms t _ x e) e).1 in
      behind_brace p (fields_pieces modules d.fields) (variants_pieces modules d.picks) ms _ (letter defs modules p 123 123 _ _ _ y refl).1 refl

  -- no function has a ref of an adt of one field `fd`, a string and a star as its arguments
  no_fd_star : (ts : List Ty) (ps : List Piece) (t : List ℕ)
      → Spells defs modules [] (with_commas (map (pieces modules) ts) ++ (Letter 41 ∷ ps)) t → t ≡ 82 ∷ 97 ∷ 123 ∷ 102 ∷ 100 ∷ 58 ∷ 105 ∷ 59 ∷ 125 ∷ behind_fd → ⊥
  no_fd_star [] ps t x e = omega (arith, (letter defs modules [] 41 82 ps t _ x e).0)
  no_fd_star (a ∷ ts) ps t x e =
      let more = after_commas (map (pieces modules) ts) ++ (Letter 41 ∷ ps) in
      let y = subst (λ q. Spells defs modules [] q t) (append_assoc (pieces modules a) (after_commas (map (pieces modules) ts)) (Letter 41 ∷ ps)) x in
      let ref = is_ref a (begins defs modules [] a more t 82 _ y e) in
      let z = subst (λ b. Spells defs modules [] (pieces modules b ++ more) t) ref.1 y in
      let r = behind_adt [] ref.0 more _ (letter defs modules [] 82 82 _ t _ z e).1 refl in
      no_string_star_behind defs modules r.0 ts ps behind_fd (41 ∷ 105 ∷ []) r.1 refl

  -- what stands behind `f(`
  call : (f : FnTy) (text u : List ℕ) → IsText defs modules f text → text ≡ 102 ∷ 40 ∷ u
      → Spells defs modules [] (with_commas (map (pieces modules) f.args) ++ (Letter 41 ∷ pieces modules f.answer)) u
  call f text u x e = (letter defs modules [] 40 40 _ _ u (letter defs modules [] 102 102 _ text (40 ∷ u) x e).1 refl).1

pub none_is_print : NoneIsPrint
none_is_print defs modules f text x = (
  λ e. no_string_star defs modules [] f.args (pieces modules f.answer) _ (41 ∷ 105 ∷ []) (call defs modules f text _ x e) refl,
  λ e. no_fd_star defs modules f.args (pieces modules f.answer) _ (call defs modules f text _ x e) refl,
  λ e. no_string_star defs modules [] f.args (pieces modules f.answer) _ (41 ∷ 115 ∷ []) (call defs modules f text _ x e) refl,
)
