-- What reading a source answers, from what its tokens and its tree are.
use Rattle.std.proofs.Common.{◌≡◌, ◌≢◌, ◌≤◌, ◌<◌, ℕ, List, length, map, false, refl, subst, sym, ap, ◌∙◌, arith}
use Rattle.std.proofs.lemmas.List.{length-map}
use Rattle.limbo_lexer.specs.declared.token.Kind.{Kind}
use Rattle.limbo_lexer.specs.declared.token.Token.{Token}
use Rattle.limbo_lexer.specs.declared.fault.LexFault.{LexFault}
use Rattle.limbo_lexer.specs.declared.fault.LexFault.TheVariants as lex
use Rattle.limbo_lexer.specs.Causes.{IsSource, IsRefused}
use Rattle.limbo_lexer.specs.Tokens.{HasTokenList}
use Rattle.limbo_tree.specs.Sources.{Source, IsTree, source_nesting}
use Rattle.limbo_parser.specs.declared.tree.ParseFault.{ParseFault}
use Rattle.limbo_parser.specs.declared.tree.ParseFault.TheVariants as parse
use Rattle.inferno_top.specs.Built.{HasTokens}
use Rattle.inferno_top.specs.Reading.{IsReadFault, unlexed, unparsed}

-- tokens without where they stand
abbrev kinds : List Token → List Kind
kinds tokens = map (λ t. t.kind) tokens

-- no list of tokens
abbrev NoList : List ℕ → LexFault → Type 0
NoList source fault = fault ≢ lex.NoMemory → (text : List ℕ) (list : List Kind) → IsSource source text → HasTokenList text list → ⊥

none_of : (source : List ℕ) (fault : LexFault) → NoList source fault → fault ≢ lex.NoMemory → (tokens : List Kind) → HasTokens source
    tokens → ⊥
none_of source fault none other tokens has = none other has.text tokens has.spelled has.cut

pub unlexed_is : (source : List ℕ) (fault : LexFault) → IsRefused source fault → NoList source fault → IsReadFault source (unlexed fault)
unlexed_is source lex.NoMemory is none = tt
unlexed_is source (lex.BadUtf8 at) is none = (tt, is, none_of source (lex.BadUtf8 at) none (λ e. absurd (cc)))
unlexed_is source (lex.BadChar span) is none = (tt, is, none_of source (lex.BadChar span) none (λ e. absurd (cc)))
unlexed_is source (lex.BadEscape span) is none = (tt, is, none_of source (lex.BadEscape span) none (λ e. absurd (cc)))
unlexed_is source (lex.NumberTooWide span) is none = (tt, is, none_of source (lex.NumberTooWide span) none (λ e. absurd (cc)))
unlexed_is source (lex.Unclosed span) is none = (tt, is, none_of source (lex.Unclosed span) none (λ e. absurd (cc)))
unlexed_is source lex.SourceTooLong is none = (tt, is, none_of source lex.SourceTooLong none (λ e. absurd (cc)))

-- these are the tokens of the source, and no others are
pub record Lexed (source : List ℕ) (tokens : List Token) : Type 0 where
  pub has : HasTokens source (kinds tokens)
  pub only : (list : List Kind) → HasTokens source list → kinds tokens ≡ list

pub lexed_of : (source : List ℕ) (items tokens : List Token) → tokens ≡ items → ((text : List ℕ) × IsSource source text × HasTokenList
    text (kinds items))
    → ((text : List ℕ) (list : List Kind) → IsSource source text → HasTokenList text list → kinds items ≡ list) → Lexed source tokens
lexed_of source items tokens same found only = record {
  has = record { text = found.0; spelled = found.1; cut = subst (λ (l : List Token). HasTokenList found.0 (kinds l)) (sym same) found.2 };
  only = λ list has. ap kinds same ∙ only has.text list has.spelled has.cut;
}

pub unparsed_is : (source : List ℕ) (tokens : List Token) (fault : ParseFault) → Lexed source tokens
    → (fault ≢ parse.NoMemory → (s : Source) → IsTree false (kinds tokens) s → source_nesting s ≤ 256 → ⊥)
    → ((token : ℕ) → fault ≡ parse.Syntax token → (s : Source) → IsTree false (kinds tokens) s → ⊥)
    → ((token : ℕ) → fault ≡ parse.TooDeep token → (256 < token) × (token ≤ length tokens))
    → IsReadFault source (unparsed tokens fault)
unparsed_is source tokens parse.NoMemory lexed refused syntax_fault deep = tt
unparsed_is source tokens (parse.Syntax token) lexed refused syntax_fault deep = (
  (kinds tokens, lexed.has),
  λ list has.
      let same : kinds tokens ≡ list = lexed.only list has in (
        λ tree is shallow. refused (λ e. absurd (cc)) tree (subst (λ (l : List Kind). IsTree false l tree) (sym same) is) shallow,
        λ tree is. syntax_fault token refl tree (subst (λ (l : List Kind). IsTree false l tree) (sym same) is),
      ),
)
unparsed_is source tokens (parse.TooDeep token) lexed refused syntax_fault deep = (
  (kinds tokens, lexed.has),
  λ list has.
      let same : kinds tokens ≡ list = lexed.only list has in
      let many = length-map tokens (λ t. t.kind) in (
        λ tree is shallow. refused (λ e. absurd (cc)) tree (subst (λ (l : List Kind). IsTree false l tree) (sym same) is) shallow,
        ((deep token refl).0, omega (arith, deep token refl, many, ap length same)),
      ),
)
