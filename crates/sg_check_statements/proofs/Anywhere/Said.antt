-- What statements say, with each name at place 0.
use Rattle.std.proofs.Common.{◌≡◌, ℕ, Bool, ◌||◌, List, [], ◌∷◌, map, refl, ◌∙◌, ap}
use Rattle.std.proofs.Math.Path.{fun_ext}
use Rattle.std.specs.List.{list_any}
use Rattle.sg_parse.specs.declared.tree.Statement.{Statement}
use Rattle.sg_parse.specs.declared.tree.Statement.TheVariants.{One, Two, Proto}
use Rattle.sg_parse.specs.Grammar.Plain.{plain_statement}
use Rattle.sg_check_statements.specs.Says.{has_proto, says, says_of}
use Rattle.sg_check_statements.specs.Inside.Pieces.{is_one, is_proto, is_two}

-- some item passes a test that a change of items doesn't alter
pub any_same : {X : Type 0} (test : X → Bool) (change : X → X) → ((x : X) → test (change x) ≡ test x) → (xs : List X) → list_any test (map change xs) ≡ list_any test xs
any_same test change same [] = refl
any_same test change same (x ∷ xs) = ap (λ b. b || list_any test (map change xs)) (same x) ∙ ap (λ b. test x || b) (any_same test change same xs)

is_proto_same : (f : List ℕ) (s : Statement) → is_proto f (plain_statement s) ≡ is_proto f s
is_proto_same f (Proto ret name params) = refl
is_proto_same f _ = refl

is_one_same : (w f : List ℕ) (s : Statement) → is_one w f (plain_statement s) ≡ is_one w f s
is_one_same w f (One word fun) = refl
is_one_same w f _ = refl

is_two_same : (w f g : List ℕ) (s : Statement) → is_two w f g (plain_statement s) ≡ is_two w f g s
is_two_same w f g (Two word first second) = refl
is_two_same w f g _ = refl

pub proto_same : (statements : List Statement) → has_proto (map plain_statement statements) ≡ has_proto statements
proto_same statements = fun_ext (λ f. any_same (is_proto f) plain_statement (is_proto_same f) statements)

pub says_same : (statements : List Statement) → says (map plain_statement statements) ≡ says statements
says_same statements = fun_ext (λ w. fun_ext (λ f. any_same (is_one w f) plain_statement (is_one_same w f) statements))

pub says_of_same : (statements : List Statement) → says_of (map plain_statement statements) ≡ says_of statements
says_of_same statements = fun_ext (λ w. fun_ext (λ f. fun_ext (λ g. any_same (is_two w f g) plain_statement (is_two_same w f g) statements)))
