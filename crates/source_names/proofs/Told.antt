-- Where files are told, one text stands at a path, and a text flattens to one row.
use Rattle.std.proofs.Common.{◌≡◌, ◌+◌, inl, inr, ℕ, zero, suc, List, ◌∷◌, ◌++◌, None, Some, Bool, true, false, refl, sym, ap, subst, ◌∙◌, arith}
use Rattle.std.specs.List.{Contains}
use Rattle.std.proofs.lemmas.Option.{same_Some}
use Rattle.inf_ports.specs.Outside.{Told, Has, Lacks as has_none}
use Rattle.limbo_lexer.specs.declared.token.Kind.{Kind}
use Rattle.limbo_lexer.specs.declared.fault.LexFault.{LexFault}
use Rattle.limbo_lexer.specs.Tokens.{HasTokenList}
use Rattle.limbo_lexer.proofs.Sources.{one_source}
use Rattle.limbo_lexer.proofs.Cutting.{one_token_list}
use Rattle.limbo_tree.specs.Sources.{Source, Top, Include, IsTree}
use Rattle.source_files.proofs.limbo_parser_lemmas.Trees.{one_tree}
use Rattle.source_files.specs.limbo_parser.declared.tree.ParseFault.{ParseFault}
use Rattle.limbo_includes.specs.Includes.{target, is_built_in}
use Rattle.limbo_top.specs.Tops.{Placed}
use Rattle.source_files.specs.Files.{Gives, IsSpelled, IsMissing}
use Rattle.source_files.specs.Texts.{HasTokens, HasTree, IsUnlexed, IsUnparsed}
use Rattle.source_names.specs.Included.{AreTold, Leads, to_source, to_included, IsTooDeep, IsIncluded, Lacks, Flattens, nothing, declaration, text, is_include}
use Rattle.source_names.specs.Laws.{IsNoText}

-- ---- one text

one_tokens : (bytes : List ℕ) (a b : List Kind) → HasTokens bytes a → HasTokens bytes b → a ≡ b
one_tokens bytes a b x y =
    let same = one_source bytes x.text y.text x.spelled y.spelled in
    one_token_list y.text a b (subst (λ (s : List ℕ). HasTokenList s a) same x.cut) y.cut

tree_of : (bytes : List ℕ) (t u : Source) → HasTree bytes t → HasTree bytes u → t ≡ u
tree_of bytes t u x y =
    one_tree true y.tokens t u (subst (λ (l : List Kind). IsTree true l t) (one_tokens bytes x.tokens y.tokens x.lexed y.lexed) x.parsed) y.parsed

one_has : (told : Told) → AreTold told → (q a b : List ℕ) → Has told q a → Has told q b → a ≡ b
one_has None t q a b h i = absurd t
one_has (Some files) t q a b h i = same_Some a b (sym h ∙ i)

has_lacks : (told : Told) → AreTold told → (q a : List ℕ) → Has told q a → has_none told q → ⊥
has_lacks None t q a h i = t
has_lacks (Some files) t q a h i = let e : None ≡ Some a = sym i ∙ h in cc

both : {X : Type 0} (b : Bool) → b ≡ true → b ≡ false → X
both b e f = absurd (let g : true ≡ false = sym e ∙ f in cc)

module _ (told : Told) (t : AreTold told) where
  one_bytes : (q a b : List ℕ) → Gives told q a → Gives told q b → a ≡ b
  one_bytes q a b (inl x) (inl y) = x.1 ∙ sym y.1
  one_bytes q a b (inl x) (inr y) = both (is_built_in q) x.0 y.0
  one_bytes q a b (inr x) (inl y) = both (is_built_in q) y.0 x.0
  one_bytes q a b (inr x) (inr y) = one_has told t q a b x.1 y.1

  pub one_text : (q : List ℕ) (a b : Source) → IsSpelled told q a → IsSpelled told q b → a ≡ b
  one_text q a b x y =
      tree_of y.bytes a b (subst (λ (z : List ℕ). HasTree z a) (one_bytes q x.bytes y.bytes x.stands y.stands) x.has) y.has

  gives_missing : (q bytes : List ℕ) → Gives told q bytes → IsMissing told q → ⊥
  gives_missing q bytes (inl x) m = both (is_built_in q) x.0 m.0
  gives_missing q bytes (inr x) m = has_lacks told t q bytes x.1 m.1

  pub not_missing : (q : List ℕ) (tree : Source) → IsSpelled told q tree → IsMissing told q → ⊥
  not_missing q tree s m = gives_missing q s.bytes s.stands m

  spelled_bytes : (q bytes : List ℕ) (tree : Source) → Gives told q bytes → IsSpelled told q tree → HasTree bytes tree
  spelled_bytes q bytes tree g s = subst (λ (z : List ℕ). HasTree z tree) (one_bytes q s.bytes bytes s.stands g) s.has

  not_unlexed : (bytes : List ℕ) (tree : Source) (f : LexFault) → HasTree bytes tree → IsUnlexed bytes f → ⊥
  not_unlexed bytes tree f h u = u.2 h.tokens h.lexed

  not_unparsed : (bytes : List ℕ) (tree : Source) (f : ParseFault) → HasTree bytes tree → IsUnparsed bytes f → ⊥
  not_unparsed bytes tree f h u = (u.1 h.tokens h.lexed).0 tree h.parsed h.shallow

  pub not_no_text : (q : List ℕ) (tree : Source) → IsSpelled told q tree → IsNoText told q → ⊥
  not_no_text q tree s n =
      let h = spelled_bytes q n.0 tree n.1 s in
      elim n.2 [
        | inl u ↦ not_unlexed n.0 tree u.0 h u.1
        | inr u ↦ not_unparsed n.0 tree u.0 h u.1
      ]

  -- ---- one row

  pub one_row : (n m : ℕ) (path : List ℕ) (tops : List Top) (a b : List Placed) → Flattens told n path tops a → Flattens told m path tops b → a ≡ b
  one_row n m path _ _ _ (nothing _ _) (nothing _ _) = refl
  one_row n m path _ _ _ (declaration _ _ top tops rest e f) (declaration _ _ _ _ others i g) =
      ap (λ (z : List Placed). record { path = path; top = top } ∷ z) (one_row n m path tops rest others f g)
  one_row n m path _ _ _ (declaration _ _ top tops rest e f) (text k _ name tree _ row others s g h) = absurd cc
  one_row n m path _ _ _ (text k _ name tree tops row rest s f g) (declaration _ _ _ _ others e h) = absurd cc
  one_row n m path _ _ _ (text j _ name tree tops row rest s f g) (text k _ _ other _ before behind r h i) =
      let same = one_text (target path name) tree other s r in
      let a : row ≡ before =
      one_row j k (target path name) other.tops row before (subst (λ (z : Source). Flattens told j (target path name) z.tops row) same f) h in
      let b : rest ≡ behind = one_row n m path tops rest behind g i in
      ap (λ (z : List Placed). z ++ rest) a ∙ ap (λ (z : List Placed). before ++ z) b

  -- ---- what includes lead to

  -- what an include names, in a text that flattens
  record IsInside (n : ℕ) (q : List ℕ) : Type 0 where
    depth : ℕ
    less : n ≡ suc depth
    tree : Source
    there : IsSpelled told q tree
    row : List Placed
    flat : Flattens told depth q tree.tops row

  inside : (n : ℕ) (path : List ℕ) (tops : List Top) (row : List Placed) → Flattens told n path tops row → (name : List ℕ) → Contains tops (Include name)
      → IsInside n (target path name)
  inside n path _ _ (nothing _ _) name c = let l = c.1 in absurd (omega arith)
  inside n path _ _ (declaration _ _ top tops rest e f) name (zero, l, g) =
      absurd (let i : is_include top ≡ true = ap is_include g in let j : true ≡ false = sym i ∙ e in cc)
  inside n path _ _ (declaration _ _ top tops rest e f) name (suc k, l, g) = inside n path tops rest f name (k, omega arith, g)
  inside n path _ _ (text j _ m tree tops row rest s f h) name (zero, l, g) =
      let same : m ≡ name = cc in
      subst (λ (z : List ℕ). IsInside n (target path z)) same
      (record { depth = j; less = refl; tree = tree; there = s; row = row; flat = f })
  inside n path _ _ (text j _ m tree tops row rest s f h) name (suc k, l, g) = inside n path tops rest h name (k, omega arith, g)

  record IsFlatAt (n : ℕ) (path : List ℕ) (tops : List Top) : Type 0 where
    depth : ℕ
    sum : depth + n ≡ 16
    row : List Placed
    flat : Flattens told depth path tops row

  flat_at : (first : List ℕ) (source : List Top) (all : List Placed) → Flattens told 16 first source all
      → (n : ℕ) (path : List ℕ) (tops : List Top) → Leads told first source n path tops → IsFlatAt n path tops
  flat_at first source all f _ _ _ to_source = record { depth = 16; sum = refl; row = all; flat = f }
  flat_at first source all f _ _ _ (to_included n path name tops tree l c s) =
      let a = flat_at first source all f n path tops l in
      let i = inside a.depth path tops a.row a.flat name c in
      let same = one_text (target path name) i.tree tree i.there s in
      record {
        depth = i.depth;
        sum = let x = a.sum in let y = i.less in omega arith;
        row = i.row;
        flat = subst (λ (z : Source). Flattens told i.depth (target path name) z.tops i.row) same i.flat;
      }

  module _ (first : List ℕ) (source : List Top) (all : List Placed) (f : Flattens told 16 first source all) where
    pub none_deep : IsTooDeep told first source → ⊥
    none_deep d =
        let a = flat_at first source all f 16 d.path d.tops d.leads in
        let i = inside a.depth d.path d.tops a.row a.flat d.name d.stands in
        let x = a.sum in
        let y = i.less in
        omega arith

    pub text_at : (q : List ℕ) → IsIncluded told first source q → (tree : Source) × IsSpelled told q tree
    text_at q k =
        let a = flat_at first source all f k.depth k.path k.tops k.leads in
        let i = inside a.depth k.path k.tops a.row a.flat k.name k.stands in
        (i.tree, subst (λ (z : List ℕ). IsSpelled told z i.tree) (sym k.names) i.there)

    pub none_lacks : Lacks told first source → ⊥
    none_lacks k = let x = text_at k.text k.included in not_missing k.text x.0 x.1 k.missing

    pub no_text : (q : List ℕ) → IsIncluded told first source q → IsNoText told q → ⊥
    no_text q k n = let x = text_at q k in not_no_text q x.0 x.1 n
