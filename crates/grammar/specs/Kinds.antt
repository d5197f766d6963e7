-- The kinds of an answer, and their numbers in the stream: docs/STREAM.md. Definitions only.
use Rattle.std.specs.Prelude.{ℕ, ◌≡◌, ◌<◌, Result}
use Rattle.std.specs.Result.{MatchResult}
use Rattle.grammar.specs.declared.Kind.{Kind}
use Rattle.grammar.specs.declared.UnknownKind.{UnknownKind}
use Rattle.grammar.specs.Layout as at

abbrev pub number_of : Kind → ℕ
number_of Kind.Nothing = at.NOTHING
number_of Kind.Hit = at.HIT
number_of Kind.HitUp = at.HIT-UP

-- the result is the kind that has this number, or an error with a number that no kind has
abbrev pub Decodes : ℕ → Result Kind UnknownKind → Type 0
Decodes k r = MatchResult r (λ kind. number_of kind ≡ k) (λ e. (e.0 ≡ k) × (at.HIT-UP < k))
