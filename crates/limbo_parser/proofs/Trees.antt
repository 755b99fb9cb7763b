-- Sources: what is read is their tree, what has a tree is read, and there is one tree.
use Rattle.std.proofs.Common.{◌≡◌, ℕ, suc, ◌+◌, ◌≤◌, ◌<◌, Bool, true, false, List, [], ◌∷◌, length, Option, Some, None, Result, Ok, Err, refl, sym, ap, ◌∙◌, arith}
use Rattle.std.specs.Prelude.{IfOk}
use Rattle.limbo_lexer.specs.declared.token.Kind.{Kind}
use Rattle.limbo_lexer.specs.declared.token.Kind.TheVariants as kind
use Rattle.limbo_lexer.specs.declared.token.Mark.TheVariants as mark
use Rattle.limbo_lexer.specs.declared.token.Key.TheVariants as key
use Rattle.limbo_tree.specs.Tokens.{◌▸◌, ◌▹◌, spell_names, is_some}
use Rattle.limbo_tree.specs.Types.{spell_part}
use Rattle.limbo_tree.specs.Decls.{Decl, FnType, Con, TypeName, Var, Define, Import, Exception, Module, Adt, spell_decl, spell_fn, fn_nesting, IsDecl, is_fn}
use Rattle.limbo_tree.specs.Stmts.{Block, Plain, Handled, spell_block}
use Rattle.limbo_tree.specs.Sources.{Top, Source, Include, Declared, Defined, spell_top, spell_tops, spell_implements, spell_source, tops_nesting, source_nesting, IsTop, AreTops, is_included, IsTree, OneTree}
use Rattle.limbo_reading.specs.declared.fault.Fault.{Fault}
use Rattle.limbo_reading.specs.declared.fault.Fault.TheVariants.{Syntax}
use Rattle.limbo_reading.specs.Reading.{after_mark, after_key, expect_mark, expect_key, expect_name}
use Rattle.limbo_reading.specs.Lists.{until}
use Rattle.limbo_reading.proofs.Steps.{took_bind, took_choose, took_if, took_mark, took_key, took_name, after_mark_is, after_key_is, kept_shorter, Deepens}
use Rattle.limbo_reading.proofs.Lists.{spell_all, Took, until_took, until_again}
use Rattle.limbo_decl_parser.specs.Decls.{decl_at, fn_at}
use Rattle.limbo_stmt_parser.specs.Stmts.{block_at}
use Rattle.limbo_parser.specs.Sources.{defines, part_at, defined_at, expect_chars, top_at, is_last, at_end, tops_at, rest_at, implements_at, tree_at}
use Rattle.limbo_expr_parts.specs.Strength.{begins_expr}
use Rattle.limbo_decl_parser.proofs.Laws.{fn_again, fn_took, decl_again, decl_took}
use Rattle.limbo_parser.proofs.Keeps.{top_keeps}
use Rattle.limbo_parser.proofs.Deep.{tree_deepens}
use Rattle.limbo_parser.proofs.Shapes.{GoodTop, tops_spelled, tops_are, tops_each}
use Rattle.limbo_parser.proofs.Sound.{block_at_took}
use Rattle.limbo_parser.proofs.Begins.{opens, decl_begins}
use Rattle.limbo_parser.proofs.Complete.{all_long, block_at_again}

-- ---- sound

part_took : (ts : List Kind) → IfOk (part_at ts) (λ x. ts ≡ spell_part x.0 x.1)
part_took ts =
    took_choose (after_mark mark.Dot ts) _ _ _ (λ n. refl) λ us e.
    took_bind (expect_name us) _ _ _ (took_name us) λ n i. after_mark_is mark.Dot ts us e ∙ ap (λ (v : List Kind). mark.Dot ▸ v) i

defined_took : (b : ℕ) (ts : List Kind) → IfOk (defined_at b ts) (Took spell_top (GoodTop b) ts)
unfolding defined_at
defined_took b ts =
    took_bind (expect_name ts) _ _ _ (took_name ts) λ n i.
    took_bind (part_at n.1) _ _ _ (part_took n.1) λ part j.
    took_bind (fn_at b part.1) _ _ _ (fn_took b part.1) λ f t.
    took_bind (block_at b f.1) _ _ _ (block_at_took b f.1) λ body q. record {
      parts = i ∙ ap (λ (v : List Kind). kind.Name n.0 ∷ v) (j ∙ ap (spell_part part.0) (t.parts ∙ ap (spell_fn f.0) q.parts));
      stands = ((t.stands.0, q.stands.0), omega (arith, t.stands.1, q.stands.1));
    }

chars_took : (ts : List Kind) → IfOk (expect_chars ts) (λ x. ts ≡ kind.Chars x.0 ∷ x.1)
chars_took [] = tt
chars_took (kind.Chars s ∷ ts) = refl
chars_took (_ ∷ ts) = tt

top_took : (b : ℕ) (ts : List Kind) → IfOk (top_at b ts) (Took spell_top (GoodTop b) ts)
unfolding top_at
top_took b ts =
    took_choose (after_key key.Include ts) _ _ _
    (λ n. took_if (defines ts) _ _ _ (λ y. defined_took b ts) λ y.
    took_bind (decl_at b ts) _ _ _ (decl_took b ts) λ d t. record { parts = t.parts; stands = t.stands })
    λ us e.
    took_bind (expect_chars us) _ _ _ (chars_took us) λ s i.
    took_bind (expect_mark mark.Semicolon s.1) _ _ _ (took_mark mark.Semicolon s.1) λ vs j. record {
      parts = after_key_is key.Include ts us e ∙ ap (λ (v : List Kind). key.Include ▹ v) (i ∙ ap (λ (v : List Kind). kind.Chars s.0 ∷ v) j);
      stands = (tt, omega arith);
    }

last_is : (ts : List Kind) → is_last ts ≡ true → ts ≡ kind.End ∷ []
last_is [] h = absurd cc
last_is (kind.End ∷ []) h = refl
last_is (kind.End ∷ t ∷ ts) h = absurd cc
last_is (_ ∷ ts) h = absurd cc

-- the tree of what stands behind the start
record Rest (b : ℕ) (n : Option (List ℕ)) (ts : List Kind) (s : Source) : Type 0 where
  pub implements : s.implements ≡ n
  pub formed : AreTops s.tops
  pub within : tops_nesting s.tops ≤ b
  pub spelled : ts ≡ spell_tops s.tops (kind.End ∷ [])

rest_took : (b : ℕ) (n : Option (List ℕ)) (ts : List Kind) → IfOk (rest_at b n ts) (Rest b n ts)
unfolding tops_at
rest_took b n ts =
    took_bind (until (top_at b) (λ us. Ok (at_end us)) (suc (length ts)) ts) _ _ _ (until_took (top_at b) (λ us. Ok (at_end us)) spell_top (GoodTop b) (top_took b) (suc (length ts)) ts) λ tops t.
    took_if (is_last tops.1) _ _ _ (λ e.
    let are = tops_are b tops.0 t.0.stands in
    record {
      implements = refl;
      formed = are.0;
      within = are.1;
      spelled = t.0.parts ∙ tops_spelled tops.0 tops.1 ∙ ap (spell_tops tops.0) (last_is tops.1 e);
    }) λ e. tt

if_ok : {A : Type 0} (r : Result A Fault) (P Q : A → Type 0) → IfOk r P → ((x : A) → P x → Q x) → IfOk r Q
if_ok (Ok x) P Q h f = f x h
if_ok (Err e) P Q h f = tt

included_of : (s : Source) (n : Option (List ℕ)) (i : Bool) → s.implements ≡ n → (elim n [ None ↦ true | Some m ↦ false ]) ≡ i → is_included s ≡ i
included_of s n i e h = ap (λ (o : Option (List ℕ)). elim o [ None ↦ true | Some m ↦ false ]) e ∙ h

source_spelled : (s : Source) (n : Option (List ℕ)) (ts : List Kind) → s.implements ≡ n → ts ≡ spell_implements n (spell_tops s.tops (kind.End ∷ [])) → ts ≡ spell_source s
source_spelled s n ts e h = h ∙ ap (λ (o : Option (List ℕ)). spell_implements o (spell_tops s.tops (kind.End ∷ []))) (sym e)

pub tree_took : (b : ℕ) (included : Bool) (ts : List Kind) → IfOk (tree_at b included ts) (λ s. IsTree included ts s × (source_nesting s ≤ b))
unfolding tree_at implements_at
tree_took b true ts =
    if_ok (rest_at b None ts) _ _ (rest_took b None ts) λ s t.
    (record { start = included_of s None true t.implements refl; formed = t.formed; spelled = source_spelled s None ts t.implements t.spelled }, t.within)
tree_took b false ts =
    took_bind (implements_at false ts) _ (λ x. (m : List ℕ) × (x.0 ≡ Some m) × (ts ≡ key.Implement ▹ kind.Name m ∷ (mark.Semicolon ▸ x.1))) _
    (took_bind (expect_key key.Implement ts) _ _ _ (took_key key.Implement ts) λ us e.
    took_bind (expect_name us) _ _ _ (took_name us) λ n i.
    took_bind (expect_mark mark.Semicolon n.1) _ _ _ (took_mark mark.Semicolon n.1) λ vs j.
    (n.0, refl, e ∙ ap (λ (v : List Kind). key.Implement ▹ v) (i ∙ ap (λ (v : List Kind). kind.Name n.0 ∷ v) j)))
    λ x q.
    if_ok (rest_at b x.0 x.1) _ _ (rest_took b x.0 x.1) λ s t. (
      record {
        start = included_of s (Some q.0) false (t.implements ∙ q.1) refl;
        formed = t.formed;
        spelled = source_spelled s (Some q.0) ts (t.implements ∙ q.1) (q.2 ∙ ap (λ (v : List Kind). key.Implement ▹ kind.Name q.0 ∷ (mark.Semicolon ▸ v)) t.spelled);
      },
      t.within,
    )

-- ---- complete

named_top : (ns : List (List ℕ)) (ts : List Kind) → is_some ns ≡ true → (after_key key.Include (spell_names ns (mark.Colon ▸ ts)) ≡ None) × (defines (spell_names ns (mark.Colon ▸ ts)) ≡ false)
named_top [] ts h = absurd (let e : false ≡ true = h in cc)
named_top (n ∷ []) ts h = (refl, refl)
named_top (n ∷ m ∷ ns) ts h = (refl, refl)

decl_top : (d : Decl) (ts : List Kind) → IsDecl d → (after_key key.Include (spell_decl d ts) ≡ None) × (defines (spell_decl d ts) ≡ false)
decl_top (Con ns e) ts h = named_top ns _ h.0
decl_top (TypeName ns t) ts h = named_top ns _ h.0
decl_top (Var ns t v) ts h = named_top ns _ h.0
decl_top (Define [] e) ts h = absurd (let i : false ≡ true = h.0 in cc)
decl_top (Define (n ∷ []) e) ts h = (refl, refl)
decl_top (Define (n ∷ m ∷ ns) e) ts h = (refl, refl)
decl_top (Import ns m) ts h = named_top ns _ h
decl_top (Exception ns tys) ts h = named_top ns _ h.0
decl_top (Module n ms) ts h = (refl, refl)
decl_top (Adt n ms pick) ts h = (refl, refl)

body_again : (b : ℕ) (f : FnType) (x : Block) (ts : List Kind) → is_fn f ≡ true → fn_nesting f ≤ b → fn_at b (spell_fn f (spell_block x ts)) ≡ Ok (f, spell_block x ts)
body_again b f (Plain ss) ts h d = fn_again b f _ h d (omega arith) refl refl
body_again b f (Handled ss n arms) ts h d = fn_again b f _ h d (omega arith) refl refl

-- what follows what stands at the top level
abbrev TopEnds : List Kind → Type 0
TopEnds ts = after_key key.Exception ts ≡ None

top_again : (b : ℕ) (t : Top) (ts : List Kind) → GoodTop b t → TopEnds ts → top_at b (spell_top t ts) ≡ Ok (t, ts)
unfolding top_at defined_at
top_again b (Include s) ts g f = refl
top_again b (Declared d) ts g f = let p = decl_top d ts g.0 in rw (p.0, p.1, decl_again b d ts g.0 g.1) refl
top_again b (Defined n None t x) ts g f =
    rw (body_again b t x ts g.0.0 (omega (arith, g.1)), block_at_again b x ts g.0.1 (omega (arith, g.1)) f) refl
top_again b (Defined n (Some m) t x) ts g f =
    rw (body_again b t x ts g.0.0 (omega (arith, g.1)), block_at_again b x ts g.0.1 (omega (arith, g.1)) f) refl

not_end : (ts : List Kind) → begins_expr ts ≡ true → at_end ts ≡ false
not_end [] h = refl
not_end (kind.End ∷ ts) h = absurd (let e : false ≡ true = h in cc)
not_end (_ ∷ ts) h = refl

goes : (ts : List Kind) → begins_expr ts ≡ true → (at_end ts ≡ false) × TopEnds ts
goes ts h = (not_end ts h, (opens ts h).no_exception)

top_goes : (t : Top) (ts : List Kind) → IsTop t → (at_end (spell_top t ts) ≡ false) × TopEnds (spell_top t ts)
top_goes (Include s) ts h = (refl, refl)
top_goes (Declared d) ts h = goes (spell_decl d ts) (decl_begins d ts h)
top_goes (Defined n part f x) ts h = (refl, refl)

top_long : (b : ℕ) (t : Top) (ts : List Kind) → GoodTop b t → TopEnds ts → length ts < length (spell_top t ts)
top_long b t ts g f =
    omega (arith, kept_shorter (suc b + 1) 1 (length (spell_top t ts)) (top_at (suc b) (spell_top t ts)) t ts (top_keeps b (spell_top t ts)) (top_again (suc b) t ts (g.0, omega (arith, g.1)) f))

rest_again : (b : ℕ) (n : Option (List ℕ)) (tops : List Top) → AreTops tops → tops_nesting tops ≤ b → rest_at b n (spell_tops tops (kind.End ∷ [])) ≡ Ok (record { implements = n; tops = tops })
unfolding tops_at
rest_again b n tops h d =
    let us : List Kind = kind.End ∷ [] in
    let spelled : spell_all spell_top tops us ≡ spell_tops tops us = tops_spelled tops us in
    let each = tops_each b tops h d in
    let long = all_long spell_top (GoodTop b) TopEnds (λ x vs g f. (top_goes x vs g.0).1) (top_long b) tops us each refl in
    ap (rest_at b n) (sym spelled)
    ∙ rw (until_again (top_at b) (λ vs. Ok (at_end vs)) spell_top (GoodTop b) TopEnds (λ x vs g f. ap (λ (e : Bool). Ok e) (top_goes x vs g.0).0) (λ x vs g. (top_goes x vs g.0).1) (top_again b) tops (suc (length (spell_all spell_top tops us))) us each refl refl (omega (arith, long.0))) refl

tree_from : (b : ℕ) (included : Bool) (n : Option (List ℕ)) (tops : List Top) → (elim n [ None ↦ true | Some m ↦ false ]) ≡ included → AreTops tops → tops_nesting tops ≤ b → tree_at b included (spell_implements n (spell_tops tops (kind.End ∷ []))) ≡ Ok (record { implements = n; tops = tops })
unfolding tree_at implements_at
tree_from b true None tops i h d = rest_again b None tops h d
tree_from b false None tops i h d = absurd (let e : true ≡ false = i in cc)
tree_from b true (Some n) tops i h d = absurd (let e : false ≡ true = i in cc)
tree_from b false (Some n) tops i h d = rest_again b (Some n) tops h d

pub tree_again : (b : ℕ) (included : Bool) (ts : List Kind) (s : Source) → IsTree included ts s → source_nesting s ≤ b → tree_at b included ts ≡ Ok s
tree_again b included ts s t d = ap (tree_at b included) t.spelled ∙ tree_from b included s.implements s.tops t.start t.formed d

-- ---- one tree, and none where there is a fault of syntax

pub one_tree : OneTree
one_tree included ts s t p q =
    let x = tree_again (source_nesting s + source_nesting t) included ts s p (omega arith) in
    let y = tree_again (source_nesting s + source_nesting t) included ts t q (omega arith) in
    cc

pub none_at_all : (b n : ℕ) (included : Bool) (ts : List Kind) → tree_at b included ts ≡ Err (Syntax n) → (s : Source) → IsTree included ts s → ⊥
none_at_all b n included ts e s t =
    let d : Deepens (tree_at b included ts) (tree_at (b + source_nesting s) included ts) = tree_deepens b (b + source_nesting s) included ts (omega arith) in
    let f : tree_at (b + source_nesting s) included ts ≡ Err (Syntax n) = rw e at d in
    let g : tree_at (b + source_nesting s) included ts ≡ Ok s = tree_again (b + source_nesting s) included ts s t (omega arith) in
    absurd cc
