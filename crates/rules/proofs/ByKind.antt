-- What an octet says of a kind.
use Rattle.std.proofs.Common.{◌≡◌, ℕ, eqb, eqb-true}
use Rattle.octets.proofs.Tests.{by_test}
use Rattle.std.specs.Prelude.{Option, Some, None}
use Rattle.rules.specs.declared.event.Kind.{Kind}
use Rattle.rules.specs.declared.event.Kind.TheVariants.{SetUp, Release, LookAhead, Cancel, Clock, NoService, Answered}
use Rattle.rules.specs.Event.{kind_of}

abbrev pub Says : ℕ → Option Kind → Type 0  -- octet o says a kind by this number
Says o (Some SetUp) = o ≡ 1
Says o (Some Release) = o ≡ 2
Says o (Some LookAhead) = o ≡ 3
Says o (Some Cancel) = o ≡ 4
Says o (Some Clock) = o ≡ 5
Says o (Some NoService) = o ≡ 6
Says o (Some Answered) = o ≡ 7
Says o None = Unit {0}

pub kind-says : (o : ℕ) → Says o (kind_of o)
unfolding kind_of
kind-says o =
    by_test (Says o) (eqb o 1) _ _ (eqb-true o 1)
    (λ a. by_test (Says o) (eqb o 2) _ _ (eqb-true o 2)
    (λ b. by_test (Says o) (eqb o 3) _ _ (eqb-true o 3)
    (λ c. by_test (Says o) (eqb o 4) _ _ (eqb-true o 4)
    (λ d. by_test (Says o) (eqb o 5) _ _ (eqb-true o 5)
    (λ e. by_test (Says o) (eqb o 6) _ _ (eqb-true o 6)
    (λ f. by_test (Says o) (eqb o 7) _ _ (eqb-true o 7) (λ g. tt)))))))
