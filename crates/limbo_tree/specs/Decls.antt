-- Declarations (Limbo Language Reference, declarations): their trees, the spelling of each, how deep each nests, and which
-- are well formed.
use Rattle.std.specs.Prelude.{◌≡◌, ℕ, ◌+◌, max, List, [], ◌∷◌, Bool, true, false, ◌&&◌, Option, None, Some}
use Rattle.limbo_lexer.specs.declared.token.Kind.{Kind}
use Rattle.limbo_lexer.specs.declared.token.Kind.TheVariants as kind
use Rattle.limbo_lexer.specs.declared.token.Mark.TheVariants as mark
use Rattle.limbo_lexer.specs.declared.token.Key.TheVariants as key
use Rattle.limbo_tree.specs.Tokens.{◌▸◌, ◌▹◌, spell_names, spell_choices, is_some}
use Rattle.limbo_tree.specs.Types.{Ty, Tys, spell_ty, spell_tys, ty_nesting, tys_nesting, is_ty, are_tys, are_all_tys}
use Rattle.limbo_tree.specs.Types.{NoTys, MoreTys}
use Rattle.limbo_tree.specs.Exprs.{Expr, spell, nesting, IsAt}

-- param = pname {"," pname} ":" ["self"] type, where a pname is a name or `nil`
pub record Param : Type 0 where
  pub names : List (Option (List ℕ))
  pub is_self : Bool
  pub of : Ty

-- raises = "raises" (ID | "(" ids ")")
pub data Raises : Type 0 where
  One : List ℕ → Raises
  Several : List (List ℕ) → Raises

-- what stands behind a function's name: "(" [params] ")" [":" type] [raises]
pub record FnType : Type 0 where
  pub params : List Param
  pub answer : Option Ty
  pub raises : Option Raises

-- ids ":" type ";" in a variant
pub record Field : Type 0 where
  pub names : List (List ℕ)
  pub of : Ty

-- variant = ID {"or" ID} "=>" {ids ":" type ";"}
pub record Variant : Type 0 where
  pub names : List (List ℕ)
  pub fields : List Field

mutual
  pub data Member : Type 0 where
    VarMember : List (List ℕ) → Ty → Member
    FnMember : List (List ℕ) → FnType → Member
    ConMember : List (List ℕ) → Expr → Member
    TypeMember : List (List ℕ) → Ty → Member
    AdtMember : List ℕ → Members → Option (List Variant) → Member

  pub data Members : Type 0 where
    NoMembers : Members
    MoreMembers : Member → Members → Members

pub data Decl : Type 0 where
  Con : List (List ℕ) → Expr → Decl
  TypeName : List (List ℕ) → Ty → Decl
  Var : List (List ℕ) → Ty → Option Expr → Decl
  Define : List (List ℕ) → Expr → Decl
  Import : List (List ℕ) → List ℕ → Decl
  Exception : List (List ℕ) → Tys → Decl
  Module : List ℕ → Members → Decl
  Adt : List ℕ → Members → Option (List Variant) → Decl

-- ---- spelling

abbrev pub spell_pname : Option (List ℕ) → List Kind → List Kind
spell_pname None ts = key.Nil ▹ ts
spell_pname (Some n) ts = kind.Name n ∷ ts

abbrev pub spell_more_pnames : List (Option (List ℕ)) → List Kind → List Kind
spell_more_pnames [] ts = ts
spell_more_pnames (n ∷ ns) ts = mark.Comma ▸ spell_pname n (spell_more_pnames ns ts)

abbrev pub spell_pnames : List (Option (List ℕ)) → List Kind → List Kind
spell_pnames [] ts = ts
spell_pnames (n ∷ ns) ts = spell_pname n (spell_more_pnames ns ts)

-- ["self"]
abbrev pub spell_self : Bool → List Kind → List Kind
spell_self true ts = key.SelfWord ▹ ts
spell_self false ts = ts

abbrev pub spell_param : Param → List Kind → List Kind
spell_param p ts = spell_pnames p.names (mark.Colon ▸ spell_self p.is_self (spell_ty p.of ts))

abbrev pub spell_more_params : List Param → List Kind → List Kind
spell_more_params [] ts = ts
spell_more_params (p ∷ ps) ts = mark.Comma ▸ spell_param p (spell_more_params ps ts)

-- [params]
abbrev pub spell_params : List Param → List Kind → List Kind
spell_params [] ts = ts
spell_params (p ∷ ps) ts = spell_param p (spell_more_params ps ts)

-- [":" type]
abbrev pub spell_answer : Option Ty → List Kind → List Kind
spell_answer None ts = ts
spell_answer (Some t) ts = mark.Colon ▸ spell_ty t ts

-- [raises]
abbrev pub spell_raises : Option Raises → List Kind → List Kind
spell_raises None ts = ts
spell_raises (Some (One n)) ts = key.Raises ▹ kind.Name n ∷ ts
spell_raises (Some (Several ns)) ts = key.Raises ▹ mark.OpenParen ▸ spell_names ns (mark.CloseParen ▸ ts)

abbrev pub spell_fn : FnType → List Kind → List Kind
spell_fn f ts =
    mark.OpenParen ▸ spell_params f.params (mark.CloseParen ▸ spell_answer f.answer (spell_raises f.raises ts))

abbrev pub spell_field : Field → List Kind → List Kind
spell_field f ts = spell_names f.names (mark.Colon ▸ spell_ty f.of (mark.Semicolon ▸ ts))

abbrev pub spell_fields : List Field → List Kind → List Kind
spell_fields [] ts = ts
spell_fields (f ∷ fs) ts = spell_field f (spell_fields fs ts)

abbrev pub spell_variant : Variant → List Kind → List Kind
spell_variant v ts = spell_choices v.names (mark.FatArrow ▸ spell_fields v.fields ts)

abbrev pub spell_variants : List Variant → List Kind → List Kind
spell_variants [] ts = ts
spell_variants (v ∷ vs) ts = spell_variant v (spell_variants vs ts)

-- ["pick" "{" {variant} "}"]
abbrev pub spell_pick : Option (List Variant) → List Kind → List Kind
spell_pick None ts = ts
spell_pick (Some vs) ts = key.Pick ▹ mark.OpenBrace ▸ spell_variants vs (mark.CloseBrace ▸ ts)

abbrev mutual
  pub spell_member : Member → List Kind → List Kind
  spell_member (VarMember ns t) ts = spell_names ns (mark.Colon ▸ spell_ty t (mark.Semicolon ▸ ts))
  spell_member (FnMember ns f) ts = spell_names ns (mark.Colon ▸ key.Fn ▹ spell_fn f (mark.Semicolon ▸ ts))
  spell_member (ConMember ns e) ts = spell_names ns (mark.Colon ▸ key.Con ▹ spell e (mark.Semicolon ▸ ts))
  spell_member (TypeMember ns t) ts = spell_names ns (mark.Colon ▸ key.TypeWord ▹ spell_ty t (mark.Semicolon ▸ ts))
  spell_member (AdtMember n ms pick) ts =
      kind.Name n ∷ (mark.Colon ▸ key.Adt ▹ mark.OpenBrace ▸
      spell_members ms (spell_pick pick (mark.CloseBrace ▸ mark.Semicolon ▸ ts)))

  pub spell_members : Members → List Kind → List Kind
  spell_members NoMembers ts = ts
  spell_members (MoreMembers m ms) ts = spell_member m (spell_members ms ts)

-- ["=" expr]
abbrev pub spell_value : Option Expr → List Kind → List Kind
spell_value None ts = ts
spell_value (Some e) ts = mark.Assign ▸ spell e ts

-- ["(" type {"," type} ")"]
abbrev pub spell_values : Tys → List Kind → List Kind
spell_values NoTys ts = ts
spell_values (MoreTys t tys) ts = mark.OpenParen ▸ spell_tys (MoreTys t tys) (mark.CloseParen ▸ ts)

abbrev pub spell_decl : Decl → List Kind → List Kind
spell_decl (Con ns e) ts = spell_names ns (mark.Colon ▸ key.Con ▹ spell e (mark.Semicolon ▸ ts))
spell_decl (TypeName ns t) ts = spell_names ns (mark.Colon ▸ key.TypeWord ▹ spell_ty t (mark.Semicolon ▸ ts))
spell_decl (Var ns t v) ts = spell_names ns (mark.Colon ▸ spell_ty t (spell_value v (mark.Semicolon ▸ ts)))
spell_decl (Define ns e) ts = spell_names ns (mark.Define ▸ spell e (mark.Semicolon ▸ ts))
spell_decl (Import ns m) ts = spell_names ns (mark.Colon ▸ key.Import ▹ kind.Name m ∷ (mark.Semicolon ▸ ts))
spell_decl (Exception ns tys) ts =
    spell_names ns (mark.Colon ▸ key.Exception ▹ spell_values tys (mark.Semicolon ▸ ts))
spell_decl (Module n ms) ts =
    kind.Name n ∷ (mark.Colon ▸ key.Module ▹ mark.OpenBrace ▸
    spell_members ms (mark.CloseBrace ▸ mark.Semicolon ▸ ts))
spell_decl (Adt n ms pick) ts =
    kind.Name n ∷ (mark.Colon ▸ key.Adt ▹ mark.OpenBrace ▸
    spell_members ms (spell_pick pick (mark.CloseBrace ▸ mark.Semicolon ▸ ts)))

-- ---- nesting: an adt's declaration counts as a type

abbrev pub option_nesting : Option Expr → ℕ
option_nesting None = 0
option_nesting (Some e) = nesting e

abbrev pub answer_nesting : Option Ty → ℕ
answer_nesting None = 0
answer_nesting (Some t) = ty_nesting t

abbrev pub params_nesting : List Param → ℕ
params_nesting [] = 0
params_nesting (p ∷ ps) = max (ty_nesting p.of) (params_nesting ps)

abbrev pub fn_nesting : FnType → ℕ
fn_nesting f = max (params_nesting f.params) (answer_nesting f.answer)

abbrev pub fields_nesting : List Field → ℕ
fields_nesting [] = 0
fields_nesting (f ∷ fs) = max (ty_nesting f.of) (fields_nesting fs)

abbrev pub variants_nesting : List Variant → ℕ
variants_nesting [] = 0
variants_nesting (v ∷ vs) = max (fields_nesting v.fields) (variants_nesting vs)

abbrev pub pick_nesting : Option (List Variant) → ℕ
pick_nesting None = 0
pick_nesting (Some vs) = variants_nesting vs

abbrev mutual
  pub member_nesting : Member → ℕ
  member_nesting (VarMember ns t) = ty_nesting t
  member_nesting (FnMember ns f) = fn_nesting f
  member_nesting (ConMember ns e) = nesting e
  member_nesting (TypeMember ns t) = ty_nesting t
  member_nesting (AdtMember n ms pick) = 1 + max (members_nesting ms) (pick_nesting pick)

  pub members_nesting : Members → ℕ
  members_nesting NoMembers = 0
  members_nesting (MoreMembers m ms) = max (member_nesting m) (members_nesting ms)

abbrev pub decl_nesting : Decl → ℕ
decl_nesting (Con ns e) = nesting e
decl_nesting (TypeName ns t) = ty_nesting t
decl_nesting (Var ns t v) = max (ty_nesting t) (option_nesting v)
decl_nesting (Define ns e) = nesting e
decl_nesting (Import ns m) = 0
decl_nesting (Exception ns tys) = tys_nesting tys
decl_nesting (Module n ms) = members_nesting ms
decl_nesting (Adt n ms pick) = 1 + max (members_nesting ms) (pick_nesting pick)

-- ---- well-formed trees

abbrev pub IsOption : Option Expr → Type 0
IsOption None = Unit {0}
IsOption (Some e) = IsAt 13 e

abbrev pub are_params : List Param → Bool
are_params [] = true
are_params (p ∷ ps) = is_some p.names && is_ty p.of && are_params ps

abbrev pub is_answer : Option Ty → Bool
is_answer None = true
is_answer (Some t) = is_ty t

abbrev pub is_raises : Option Raises → Bool
is_raises None = true
is_raises (Some (One n)) = true
is_raises (Some (Several ns)) = is_some ns

abbrev pub is_fn : FnType → Bool
is_fn f = are_params f.params && is_answer f.answer && is_raises f.raises

abbrev pub are_fields : List Field → Bool
are_fields [] = true
are_fields (f ∷ fs) = is_some f.names && is_ty f.of && are_fields fs

abbrev pub are_variants : List Variant → Bool
are_variants [] = true
are_variants (v ∷ vs) = is_some v.names && are_fields v.fields && are_variants vs

abbrev pub is_pick : Option (List Variant) → Bool
is_pick None = true
is_pick (Some vs) = are_variants vs

abbrev mutual
  pub IsMember : Member → Type 0
  IsMember (VarMember ns t) = (is_some ns ≡ true) × (is_ty t ≡ true)
  IsMember (FnMember ns f) = (is_some ns ≡ true) × (is_fn f ≡ true)
  IsMember (ConMember ns e) = (is_some ns ≡ true) × IsAt 13 e
  IsMember (TypeMember ns t) = (is_some ns ≡ true) × (is_ty t ≡ true)
  IsMember (AdtMember n ms pick) = AreMembers ms × (is_pick pick ≡ true)

  pub AreMembers : Members → Type 0
  AreMembers NoMembers = Unit {0}
  AreMembers (MoreMembers m ms) = IsMember m × AreMembers ms

abbrev pub IsDecl : Decl → Type 0
IsDecl (Con ns e) = (is_some ns ≡ true) × IsAt 13 e
IsDecl (TypeName ns t) = (is_some ns ≡ true) × (is_ty t ≡ true)
IsDecl (Var ns t v) = (is_some ns ≡ true) × (is_ty t ≡ true) × IsOption v
IsDecl (Define ns e) = (is_some ns ≡ true) × IsAt 13 e
IsDecl (Import ns m) = is_some ns ≡ true
IsDecl (Exception ns tys) = (is_some ns ≡ true) × (are_all_tys tys ≡ true)
IsDecl (Module n ms) = AreMembers ms
IsDecl (Adt n ms pick) = AreMembers ms × (is_pick pick ≡ true)
