-- What an included text's bytes are: their tokens and their tree, or why they have none.
use Rattle.std.specs.Prelude.{◌≤◌, ◌<◌, ℕ, List, length, true, Some, None, slice_get}
use Rattle.inf_text.specs.declared.span.Span.{Span}
use Rattle.limbo_lexer.specs.declared.token.Kind.{Kind}
use Rattle.limbo_lexer.specs.declared.token.Token.{Token}
use Rattle.limbo_lexer.specs.declared.fault.LexFault.{LexFault}
use Rattle.limbo_lexer.specs.declared.fault.LexFault.TheVariants as lex
use Rattle.limbo_lexer.specs.Causes.{IsSource, IsRefused}
use Rattle.limbo_lexer.specs.Tokens.{HasTokenList}
use Rattle.limbo_tree.specs.Sources.{Source, IsTree, source_nesting}
use Rattle.limbo_parser.specs.declared.tree.ParseFault.{ParseFault}
use Rattle.limbo_parser.specs.declared.tree.ParseFault.TheVariants as parse
use Rattle.source_files.specs.declared.text.TextFault.{TextFault}
use Rattle.source_files.specs.declared.text.TextFault.TheVariants as fault

-- the bytes spell a text, and these are its tokens
pub record HasTokens (bytes : List ℕ) (tokens : List Kind) : Type 0 where
  pub text : List ℕ
  pub spelled : IsSource bytes text
  pub cut : HasTokenList text tokens

-- the tokens of the bytes have this tree, by the start of an included text; it nests at most 256 deep
pub record HasTree (bytes : List ℕ) (tree : Source) : Type 0 where
  pub tokens : List Kind
  pub lexed : HasTokens bytes tokens
  pub parsed : IsTree true tokens tree
  pub shallow : source_nesting tree ≤ 256

-- the tokens have no such tree that nests up to 256 deep
abbrev pub HasNoTree : List Kind → Type 0
HasNoTree tokens = (tree : Source) → IsTree true tokens tree → source_nesting tree ≤ 256 → ⊥

-- the tokens have no such tree, whatever its nesting
abbrev pub HasNoTreeAtAll : List Kind → Type 0
HasNoTreeAtAll tokens = (tree : Source) → IsTree true tokens tree → ⊥

-- a refusal of the grammar, and not want of memory
abbrev pub IsParseFault : List Kind → ParseFault → Type 0
IsParseFault tokens parse.NoMemory = ⊥
IsParseFault tokens (parse.Syntax token) = HasNoTreeAtAll tokens
IsParseFault tokens (parse.TooDeep token) = (256 < token) × (token ≤ length tokens)

-- a refusal of bytes and tokens, and not want of memory
abbrev pub IsLexFault : LexFault → Type 0
IsLexFault lex.NoMemory = ⊥
IsLexFault _ = Unit {0}

-- The bytes have no tokens, and why.
abbrev pub IsUnlexed : List ℕ → LexFault → Type 0
IsUnlexed bytes fault = IsLexFault fault × IsRefused bytes fault × ((tokens : List Kind) → HasTokens bytes tokens → ⊥)

-- The bytes have tokens, but these have no tree within the limit of nesting, and why.
abbrev pub IsUnparsed : List ℕ → ParseFault → Type 0
IsUnparsed bytes fault =
    ((tokens : List Kind) × HasTokens bytes tokens)
    × ((tokens : List Kind) → HasTokens bytes tokens → HasNoTree tokens × IsParseFault tokens fault)

-- why bytes are no included text, or want of memory
abbrev pub IsTextFault : List ℕ → TextFault → Type 0
IsTextFault bytes fault.NoMemory = Unit {0}
IsTextFault bytes (fault.Lex f) = IsUnlexed bytes f
IsTextFault bytes (fault.Parse f span) = IsUnparsed bytes f

-- where the token with this number stands, or the first place where there is none
abbrev pub span_at : List Token → ℕ → Span
span_at tokens number = elim (slice_get tokens number) [ None ↦ record { line = 1; col = 1; len = 0 } | Some token ↦ token.span ]

-- a refusal of bytes and tokens
abbrev pub unlexed : LexFault → TextFault
unlexed lex.NoMemory = fault.NoMemory
unlexed (lex.BadUtf8 at) = fault.Lex (lex.BadUtf8 at)
unlexed (lex.BadChar span) = fault.Lex (lex.BadChar span)
unlexed (lex.BadEscape span) = fault.Lex (lex.BadEscape span)
unlexed (lex.NumberTooWide span) = fault.Lex (lex.NumberTooWide span)
unlexed (lex.Unclosed span) = fault.Lex (lex.Unclosed span)
unlexed lex.SourceTooLong = fault.Lex lex.SourceTooLong

-- a refusal of the grammar, at its token
abbrev pub unparsed : List Token → ParseFault → TextFault
unparsed tokens parse.NoMemory = fault.NoMemory
unparsed tokens (parse.Syntax token) = fault.Parse (parse.Syntax token) (span_at tokens token)
unparsed tokens (parse.TooDeep token) = fault.Parse (parse.TooDeep token) (span_at tokens token)
