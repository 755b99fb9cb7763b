-- Why a source has no context.
use Rattle.std.proofs.Common.{◌≡◌, ◌<◌, ℕ, zero, suc, Bool, true, false, List, [], ◌∷◌, ◌++◌, Option, None, Some, length}
use Rattle.std.proofs.Common.{count_by, get_or, if◌then◌else◌, refl, sym, ap, subst, ◌∙◌, arith}
use Rattle.std.specs.List.{Contains}
use Rattle.limbo_tree.specs.Exprs.{Expr}
use Rattle.limbo_tree.specs.Decls as decls
use Rattle.limbo_types.specs.Types.{Adt}
use Rattle.limbo_layout.specs.Adts.{Def}
use Rattle.limbo_layout.specs.Layout.{Fits}
use Rattle.limbo_constants.specs.declared.constant.Constant as source
use Rattle.limbo_declarations.specs.Rows as rows
use Rattle.limbo_declarations.specs.Rows.{Row, Declared, each, counted, rows_of_member, rows_of_members, rows_of_variants, rows_of_pick}
use Rattle.limbo_declarations.specs.Rows.{rows_of_adt, rows_of_fields}
use Rattle.limbo_entries.specs.Entries as entries
use Rattle.limbo_entries.specs.Entries.{Entry, IsEntry, IsTable, Stands, inside, inside_of}
use Rattle.limbo_constant_values.specs.Values.{initial_value}
use Rattle.limbo_constant_values.specs.Answers.{IsKnown}
use Rattle.limbo_constant_values.specs.Initials.{HasInitial, AreInitials}
use Rattle.limbo_type_names.specs.Counts.{is_adt_entry}
use Rattle.limbo_source_adts.specs.Definitions.{AdtsAre, no_adts, an_adt, no_adt}
use Rattle.limbo_source_adts.proofs.Counts.{count_yes, count_no}
use Rattle.limbo_meanings.specs.declared.kind.Kind.TheVariants as kind
use Rattle.limbo_meanings.specs.Kinds.{place, is_at, is_own, is_outermost, kind_in, has_kind}
use Rattle.limbo_outline.specs.Outline as outline
use Rattle.limbo_outline.specs.Outline.{known_at}
use Rattle.limbo_source_context.specs.SourceContext.{HasNoType, HasNoLayout}
use Rattle.limbo_source_context.proofs.Ones.{never}

-- ---- by `:=` variables are declared at the top level alone

abbrev is_inferred : Declared → Bool
is_inferred (rows.Inferred e) = true
is_inferred _ = false

abbrev HaveNone : List Row → Type 0
HaveNone [] = Unit {0}
HaveNone (r ∷ rs) = (is_inferred r.means ≡ false) × HaveNone rs

none_both : (rs ss : List Row) → HaveNone rs → HaveNone ss → HaveNone (rs ++ ss)
none_both [] ss f g = g
none_both (r ∷ rs) ss f g = (f.0, none_both rs ss f.1 g)

none_each : (p : List ℕ) (ns : List (List ℕ)) (d : Declared) → is_inferred d ≡ false → HaveNone (each p ns d)
none_each p [] d f = tt
none_each p (n ∷ ns) d f = (f, none_each p ns d f)

none_counted : (p : List ℕ) (k : ℕ) (ns : List (List ℕ)) (e : Expr) → HaveNone (counted p k ns e)
none_counted p k [] e = tt
none_counted p k (n ∷ ns) e = (refl, none_counted p (suc k) ns e)

none_member : (p : List ℕ) (m : decls.Member) → HaveNone (rows_of_member p m)
none_member p (decls.VarMember ns t) = none_each p ns (rows.Variable t None) refl
none_member p (decls.FnMember ns f) = none_each p ns (rows.Function f) refl
none_member p (decls.ConMember ns e) = none_counted p 0 ns e
none_member p (decls.TypeMember ns t) = none_each p ns (rows.Alias t) refl
none_member p (decls.AdtMember n ms pick) = (refl, tt)

none_members : (p : List ℕ) (ms : decls.Members) → HaveNone (rows_of_members p ms)
none_members p decls.NoMembers = tt
none_members p (decls.MoreMembers m ms) = none_both (rows_of_member p m) (rows_of_members p ms) (none_member p m) (none_members p ms)

none_variants : (p : List ℕ) (vs : List decls.Variant) → HaveNone (rows_of_variants p vs)
none_variants p [] = tt
none_variants p (v ∷ vs) =
    none_both (each p v.names (rows.Case v.fields)) (rows_of_variants p vs) (none_each p v.names (rows.Case v.fields) refl)
    (none_variants p vs)

none_pick : (p : List ℕ) (pick : Option (List decls.Variant)) → HaveNone (rows_of_pick p pick)
none_pick p None = tt
none_pick p (Some vs) = none_variants p vs

none_fields : (p : List ℕ) (fs : List decls.Field) → HaveNone (rows_of_fields p fs)
none_fields p [] = tt
none_fields p (f ∷ fs) =
    none_both (each p f.names (rows.Variable f.of None)) (rows_of_fields p fs) (none_each p f.names (rows.Variable f.of None) refl)
    (none_fields p fs)

none_inside : (p : List ℕ) (d : Declared) → HaveNone (inside_of p d)
none_inside p (rows.Module ms) = none_members p ms
none_inside p (rows.Adt ms pick) = none_both (rows_of_members p ms) (rows_of_pick p pick) (none_members p ms) (none_pick p pick)
none_inside p (rows.Case fs) = none_fields p fs
none_inside p _ = tt

none_there : (rs : List Row) (r : Row) → HaveNone rs → Contains rs r → is_inferred r.means ≡ false
none_there rs r f c = go rs f c.0 c.1 c.2
  where
    go : (rs : List Row) → HaveNone rs → (n : ℕ) → n < length rs → get_or rs n r ≡ r → is_inferred r.means ≡ false
    go [] f n l h = absurd (omega arith)
    go (s ∷ rs) f zero l h = subst (λ (z : Row). is_inferred z.means ≡ false) h f.0
    go (s ∷ rs) f (suc n) l h = go rs f.1 n (omega arith) h

outermost_alone : (top : List Row) (es : List Entry) (k : ℕ) (within : Option ℕ) (r : Row) → Stands top es k within r
    → is_inferred r.means ≡ true → within ≡ None
outermost_alone top es k _ _ (entries.at_top r h) is = refl
outermost_alone top es k _ _ (entries.within_other j outer r i l c) is =
    absurd (never is (none_there (inside outer.row) r (none_inside outer.row.path outer.row.means) c))

inferred_is_global : (top : List Row) (es : List Entry) (m k : ℕ) (e : Entry) (expr : Expr) → IsTable top es → IsEntry es k e
    → e.row.means ≡ rows.Inferred expr → has_kind es m (place kind.Global) e ≡ true
inferred_is_global top es m k e expr table at is =
    let w = outermost_alone top es k e.within e.row (table.only k e at) (ap is_inferred is) in
    ap (λ (d : Declared). is_at 0 (kind_in (is_own es m e.within) (is_outermost m e.within) d)) is
    ∙ ap (λ (s : Option ℕ). is_at 0 (if is_outermost m s then Some kind.Global else None)) w

pub no_type : (top : List Row) (es : List Entry) (m : ℕ) (initials : List (Option source.Constant)) (k : ℕ) → IsTable top es
    → AreInitials es m initials → outline.HasNoType es initials k → HasNoType es m k
no_type top es m initials k table are lacking = record {
  entry = lacking.entry;
  expr = lacking.expr;
  there = lacking.there;
  global = inferred_is_global top es m k lacking.entry lacking.expr table lacking.there lacking.is;
  is = lacking.is;
  no_constant = λ c w.
      let i : HasInitial es m k c = record {
        entry = lacking.entry;
        expr = lacking.expr;
        there = lacking.there;
        written = ap initial_value
            lacking.is;
        comes = w;
      } in
      let h : IsKnown initials k c = are.complete k c i in
      let f : known_at initials k ≡ Some c = ap (λ (z : Option (Option source.Constant)). elim z [ None ↦ None | Some known ↦ known ]) h in
      let g : None ≡ Some c = sym lacking.unknown ∙ f in
      absurd cc;
}

-- ---- adts are counted

adts_counted : (es : List Entry) (m k : ℕ) (fs : List Entry) (ds : List Def) → AdtsAre es m k fs ds → length ds ≡ count_by is_adt_entry fs
adts_counted es m _ _ _ (no_adts k) = refl
adts_counted es m _ _ _ (an_adt k e d fs ds is h l) = ap suc (adts_counted es m (suc k) fs ds l) ∙ sym (count_yes is_adt_entry e fs is)
adts_counted es m _ _ _ (no_adt k e fs ds is l) = adts_counted es m (suc k) fs ds l ∙ sym (count_no is_adt_entry e fs is)

pub no_layout : (es : List Entry) (m n : ℕ) → n < count_by is_adt_entry es
    → (defs : List Def) × AdtsAre es m 0 es defs × (Fits defs (Adt n) → ⊥) → HasNoLayout es m n
no_layout es m n l h = record {
  defs = h.0;
  adts = h.1;
  there = let c = adts_counted es m 0 es h.0 h.1 in omega arith;
  unfit = h.2;
}
