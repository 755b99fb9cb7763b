-- What a source declares, where files are told; and what is refused.
use Rattle.std.proofs.Common.{◌≡◌, ℕ, List, map, None, Some, sym, subst, ◌∙◌}
use Rattle.std.proofs.lemmas.Option.{same_Some}
use Rattle.inf_ports.specs.Outside.{Told}
use Rattle.limbo_tree.specs.Sources.{Source}
use Rattle.limbo_top.specs.Tops.{Placed}
use Rattle.limbo_top.specs.TopLevel.{HasNoModule}
use Rattle.limbo_entries.specs.Entries.{Entry}
use Rattle.limbo_tree.specs.View.{view_source}
use Rattle.limbo_tree.specs.declared.source.Source as code_source
use Rattle.limbo_includes.specs.declared.included.Included as code_included
use Rattle.inf_text.specs.declared.span.Span.{Span}
use Rattle.limbo_includes.specs.Includes as code
use Rattle.limbo_includes.specs.View.{given}
use Rattle.limbo_declare.specs.Declares as scope
use Rattle.limbo_declare.proofs.Scope as scopes
use Rattle.source_names.specs.Included.{AreTold, IsIncluded, IsDoubled}
use Rattle.source_names.specs.Declares.{HasRow, Declares, Fails, too_deep, no_include, doubled, twice, unknown, no_module, no_name, not_constant}
use Rattle.source_names.specs.Laws.{IsNoText}
use Rattle.source_names.specs.View.{AreRead}
use Rattle.source_names.specs.declared.refusal.Refusal.{Refusal}
use Rattle.source_names.specs.declared.refusal.Refusal.TheVariants.{NoInclude, Twice, TooDeep}
use Rattle.source_names.proofs.Texts.{place, deep_told, whole_told, doubled_told, lacks_told}
use Rattle.source_names.proofs.Told.{one_row, none_deep, none_lacks, no_text}
use Rattle.source_names.proofs.Read.{deep_seen}
use Rattle.source_names.proofs.Doubled.{none_doubled}

-- ---- one answer

module _ (told : Told) (t : AreTold told) (path : List ℕ) (tree : Source) where
  same_name : (a b : List ℕ) (x y : List Placed) → HasRow told path tree a x → HasRow told path tree b y → a ≡ b
  same_name a b x y h i = same_Some a b (sym h.implements ∙ i.implements)

  same_row : (a b : List ℕ) (x y : List Placed) → HasRow told path tree a x → HasRow told path tree b y → x ≡ y
  same_row a b x y h i = one_row told t 16 16 path tree.tops x y h.flat i.flat

  moved : (P : List ℕ → List Placed → Type 0) (a b : List ℕ) (x y : List Placed) → HasRow told path tree a x → HasRow told path tree b y → P a x → P b y
  moved P a b x y h i p = subst (λ (z : List Placed). P b z) (same_row a b x y h i) (subst (λ (z : List ℕ). P z x) (same_name a b x y h i) p)

  pub one_scope : (es fs : List Entry) (m n : ℕ) → Declares told path tree es m → Declares told path tree fs n → (es ≡ fs) × (m ≡ n)
  one_scope es fs m n d e =
      scopes.one e.name e.row es fs m n (moved (λ a x. scope.Declares a x es m) d.name e.name d.row e.row d.has e.has d.declares) e.declares

  pub refused : (refusal : Refusal) (es : List Entry) (m : ℕ) → Fails told path tree refusal → Declares told path tree es m → ⊥
  refused _ es m (too_deep x) d = none_deep told t path tree.tops d.row d.has.flat x
  refused _ es m (no_include x other) d = none_lacks told t path tree.tops d.row d.has.flat x
  refused _ es m (doubled row f x) d =
      none_doubled told d.name d.row es m d.declares (subst (λ (z : List Placed). IsDoubled told z) (one_row told t 16 16 path tree.tops row d.row f d.has.flat) x)
  refused _ es m (twice a x h f) d =
      scopes.no_twice d.name d.row es m d.declares (moved scope.FailsTwice a d.name x d.row h d.has f)
  refused _ es m (unknown a x h f) d =
      scopes.no_unknown d.name d.row es m d.declares (moved scope.FailsUnknown a d.name x d.row h d.has f)
  refused _ es m (no_module a x h f) d =
      let g = moved HasNoModule a d.name x d.row h d.has f in
      g d.declares.parts.path d.declares.parts.members d.declares.parts.is_module
  refused _ es m (no_name e) d = let f : None ≡ Some d.name = sym e ∙ d.has.implements in absurd cc
  refused _ es m (not_constant a x h f) d =
      scopes.no_constant d.name d.row es m d.declares (moved scope.FailsConstant a d.name x d.row h d.has f)

  pub no_text_there : (text : List ℕ) (es : List Entry) (m : ℕ) → IsIncluded told path tree.tops text → IsNoText told text → Declares told path tree es m → ⊥
  no_text_there text es m i n d = no_text told t path tree.tops d.row d.has.flat text i n

-- ---- refusals of the code

module _ (told : Told) (first : List ℕ) (source : code_source.Source) (texts : List code_included.Included) (r : AreRead told first source texts) where
  pub deep_is : code.IsTooDeep (given first source texts) → Fails told first (view_source source) TooDeep
  deep_is d = too_deep (deep_told told first source.tops.items texts r.named d)

  pub lacks_is : (path : List ℕ) (at : Span) → code.LacksAt (given first source texts) path at
      → (code.IsTooDeep (given first source texts) → ⊥) → Fails told first (view_source source) NoInclude
  lacks_is path at k nested =
      no_include (lacks_told told first source texts r path at k nested) (λ t d. nested (deep_seen told t first source texts r d))

  pub twice_is : code.IsWhole (given first source texts) → code.IsTwice (given first source texts) → Fails told first (view_source source) Twice
  twice_is w x =
      doubled (map place x.row) (whole_told told first source.tops.items texts r.named w.nested x.row x.flat)
      (doubled_told told first source.tops.items texts r.named w.nested x.row x.doubled)
