-- From each state, what the rest of a sentence is.
use Rattle.std.proofs.Common.{◌≡◌, ℕ, ◌+◌, ◌⊎◌, Bool, false, List, [], ◌∷◌, ◌++◌, map, refl, sym, ap, subst, ◌∙◌, nat_eq, append_assoc}
use Rattle.std.specs.Prelude.{Some, codes, replicate, All}
use Rattle.std.specs.List.{flat_map}
use Rattle.std.specs.Cmp.Lexicographic.{pointwise}
use Rattle.sg_rules.specs.sg_lex.Lexeme.{Lexeme, Spelling as Named}
use Rattle.sg_parse.specs.declared.tree.Statement.{Statement}
use Rattle.sg_parse.specs.declared.tree.Param.{Param}
use Rattle.sg_parse.specs.declared.tree.Tree.{Tree}
use Rattle.sg_parse.specs.declared.words.Sort.{Sort}
use Rattle.sg_parse.specs.declared.words.Sort.TheVariants.{Name, Form}
use Rattle.sg_parse.specs.Grammar.Inside.Words.{form_words}
use Rattle.sg_rules.specs.declared.version.Newer.{Newer}
use Rattle.sg_rules.specs.declared.version.Newer.TheVariants.{Second, Third}
use Rattle.sg_rules.specs.declared.tree.Rule.{Rule}
use Rattle.sg_rules.specs.Grammar.Pieces.{RulePiece}
use Rattle.sg_rules.specs.Grammar.Inside.States.{RuleState, rules_at}
use Rattle.sg_rules.proofs.Grammar.Steps.{GoesOn}
use Rattle.sg_parse.specs.Grammar.Pieces.{Piece, word, mark, name, number, version_number, kept, newer, rule, IsPiece}
use Rattle.sg_parse.specs.Grammar.Sentence.{type_pieces, statement_pieces, IsStatement}
use Rattle.sg_parse.specs.Grammar.Inside.Forms.{star, close_brace, close_bracket, more_fields, more_params, IsType}
use Rattle.sg_parse.specs.Grammar.Inside.States.{State, dead, due, fork, want, want_number, versioned, names, stars, either, listed, fielded, answering, statements, in_newer, has_sort, fits, type_of}
use Rattle.sg_parse.proofs.Grammar.Basics.{mark-has_sort, word-fits_mark, mark-fits_mark, sort-has_sort, name_apart, reserved_apart}

-- the test fails at the first of these pieces
abbrev pub Off : (Lexeme → Bool) → List Piece → Type 0
Off test [] = Unit {0}
Off test (p ∷ ps) = (token : Lexeme) → IsPiece token p → test token ≡ false

-- the names of a type but the last, and the last, where it goes on with these
abbrev pub front_of : List Named → Named → List Named → List Named
front_of front last [] = front
front_of front last (n ∷ more) = front_of (front ++ last ∷ []) n more

abbrev pub last_of : Named → List Named → Named
last_of last [] = last
last_of last (n ∷ more) = last_of n more

-- in a type: further names, stars, and then what follows the type
pub record TypeRest (P : List Named → Named → ℕ → List Piece → Type 0) (front : List Named) (last : Named) (ps : List Piece) : Type 0 where
  pub more : List Named
  pub count : ℕ
  pub behind : List Piece
  pub all : ps ≡ map (name Name) more ++ (replicate count star ++ behind)
  pub off_star : Off (fits star) behind
  pub off_name : count ≡ 0 → Off (has_sort Name) behind
  pub rest : P (front_of front last more) (last_of last more) count behind

-- after stars: further ones, and then what follows the type
pub record StarRest (P : ℕ → List Piece → Type 0) (ps : List Piece) : Type 0 where
  pub count : ℕ
  pub behind : List Piece
  pub all : ps ≡ replicate count star ++ behind
  pub off_star : Off (fits star) behind
  pub rest : P count behind

pub record ParamRest (P : List Param → List Piece → Type 0) (ps : List Piece) : Type 0 where
  pub more : List Param
  pub behind : List Piece
  pub all : ps ≡ more_params more ++ close_bracket ∷ behind
  pub types : All (λ p. IsType p.ty) more
  pub rest : P more behind

pub record StatementRest (facts_tree : List Statement → Tree) (ps : List Piece) (tree : Tree) : Type 0 where
  pub more : List Statement
  pub all : ps ≡ flat_map statement_pieces more
  pub each : All IsStatement more
  pub is : tree ≡ facts_tree more

pub record NameRest (P : Named → List Piece → Type 0) (piece : Named → Piece) (ps : List Piece) : Type 0 where
  pub value : Named
  pub behind : List Piece
  pub all : ps ≡ piece value ∷ behind
  pub rest : P value behind

pub record DueRest (P : List Piece → Type 0) (p : Piece) (ps : List Piece) : Type 0 where
  pub behind : List Piece
  pub all : ps ≡ p ∷ behind
  pub rest : P behind

-- further fields with their commas, and the bracket
pub record FieldRest (P : List Named → List Piece → Type 0) (ps : List Piece) : Type 0 where
  pub more : List Named
  pub behind : List Piece
  pub all : ps ≡ more_fields more ++ close_bracket ∷ behind
  pub rest : P more behind

-- the pieces of rules up to the brace that closes them, where these may end
pub record AnswerRest (P : List Rule → List Piece → Type 0) (r : RuleState) (ps : List Piece) : Type 0 where
  pub pieces : List RulePiece
  pub end : RuleState
  pub rules : List Rule
  pub behind : List Piece
  pub all : ps ≡ map rule pieces ++ close_brace ∷ behind
  pub goes : GoesOn r pieces end
  pub ends : rules_at end ≡ Some rules
  pub rest : P rules behind

-- in a text of a version: pieces as it has them
pub record NewerRest (version : Newer) (P : List Piece → Type 0) (ps : List Piece) : Type 0 where
  pub behind : List Piece
  pub all : ps ≡ map (newer version) behind
  pub rest : P behind

-- from a state these pieces complete this tree
abbrev pub Rest : State → List Piece → Tree → Type 0
Rest dead ps tree = ⊥
Rest (due p s) ps tree = DueRest (λ qs. Rest s qs tree) p ps
Rest (fork what s other) ps tree = DueRest (λ qs. Rest s qs tree) (word what) ps ⊎ (Off (fits (word what)) ps × Rest other ps tree)
Rest (want sort k) ps tree = NameRest (λ n qs. Rest (k n) qs tree) (name sort) ps
Rest (want_number k) ps tree = NameRest (λ n qs. Rest (k n) qs tree) number ps
Rest (versioned two three) ps tree =
    DueRest (λ qs. Rest two qs tree) (version_number Second) ps ⊎ DueRest (λ qs. Rest three qs tree) (version_number Third) ps
Rest (names front last k) ps tree = TypeRest (λ f l n qs. Rest (k f l n) qs tree) front last ps
Rest (stars front last n k) ps tree = StarRest (λ m qs. Rest (k front last (n + m)) qs tree) ps
Rest (either k s) ps tree = NameRest (λ n qs. Rest (k n) qs tree) (name Form) ps ⊎ (Off (has_sort Form) ps × Rest s ps tree)
Rest (listed params k) ps tree = ParamRest (λ more qs. Rest (k (params ++ more)) qs tree) ps
Rest (fielded fields k) ps tree = FieldRest (λ more qs. Rest (k (fields ++ more)) qs tree) ps
Rest (answering r k) ps tree = AnswerRest (λ rules qs. Rest (k rules) qs tree) r ps
Rest (statements facts before) ps tree =
    StatementRest (λ more. record { facts = facts; statements = before ++ more }) ps tree
Rest (in_newer version s) ps tree = NewerRest version (λ qs. Rest s qs tree) ps

-- ---- names of a type

pub front-last : (front : List Named) (last : Named) (more : List Named) → front_of front last more ++ last_of last more ∷ [] ≡ front ++ last ∷ more
front-last front last [] = refl
front-last front last (n ∷ more) = front-last (front ++ last ∷ []) n more ∙ append_assoc front (last ∷ []) (n ∷ more)

pub front-snoc : (front : List Named) (last : Named) (more : List Named) (n : Named) → front_of front last (more ++ n ∷ []) ≡ front ++ last ∷ more
front-snoc front last [] n = refl
front-snoc front last (m ∷ more) n = front-snoc (front ++ last ∷ []) m more n ∙ append_assoc front (last ∷ []) (m ∷ more)

pub last-snoc : (last : Named) (more : List Named) (n : Named) → last_of last (more ++ n ∷ []) ≡ n
last-snoc last [] n = refl
last-snoc last (m ∷ more) n = last-snoc m more n

-- ---- a whole type

-- a whole type, and then what follows it
pub record Whole (P : List Named → Named → ℕ → List Piece → Type 0) (ps : List Piece) : Type 0 where
  pub front : List Named
  pub last : Named
  pub count : ℕ
  pub behind : List Piece
  pub all : ps ≡ type_pieces (type_of front last count) ++ behind
  pub off_star : Off (fits star) behind
  pub off_name : count ≡ 0 → Off (has_sort Name) behind
  pub rest : P front last count behind

pub whole_of : (P : List Named → Named → ℕ → List Piece → Type 0) (first : Named) (ps : List Piece) → TypeRest P [] first ps → Whole P (name Name first ∷ ps)
whole_of P first ps r =
    let front = front_of [] first r.more in
    let last = last_of first r.more in
    let split : front ++ last ∷ [] ≡ first ∷ r.more = front-last [] first r.more in
    record {
      front = front;
      last = last;
      count = r.count;
      behind = r.behind;
      all = ap (λ v. name Name first ∷ v) r.all
          ∙ sym (append_assoc (map (name Name) (first ∷ r.more)) (replicate r.count star) r.behind)
          ∙ ap (λ v. (map (name Name) v ++ replicate r.count star) ++ r.behind) (sym split);
      off_star = r.off_star;
      off_name = r.off_name;
      rest = r.rest;
    }

pub type_rest_of : (P : List Named → Named → ℕ → List Piece → Type 0) (first : Named) (ps : List Piece) → Whole P (name Name first ∷ ps) → TypeRest P [] first ps
type_rest_of P first ps w = by w.front refl
  where
    by : (front : List Named) → w.front ≡ front → TypeRest P [] first ps
    by [] e =
        let all : name Name first ∷ ps ≡ name Name w.last ∷ (replicate w.count star ++ w.behind) =
        w.all ∙ ap (λ v. type_pieces (type_of v w.last w.count) ++ w.behind) e in
        let same : first ≡ w.last = cc in
        let rest : ps ≡ replicate w.count star ++ w.behind = cc in
        record {
          more = [];
          count = w.count;
          behind = w.behind;
          all = rest;
          off_star = w.off_star;
          off_name = w.off_name;
          rest = subst (λ v. P [] v w.count w.behind) (sym same) (subst (λ v. P v w.last w.count w.behind) e w.rest);
        }
    by (x ∷ xs) e =
        let all : name Name first ∷ ps ≡ name Name x ∷ ((map (name Name) (xs ++ w.last ∷ []) ++ replicate w.count star) ++ w.behind) =
        w.all ∙ ap (λ v. type_pieces (type_of v w.last w.count) ++ w.behind) e in
        let same : first ≡ x = cc in
        let rest : ps ≡ (map (name Name) (xs ++ w.last ∷ []) ++ replicate w.count star) ++ w.behind = cc in
        let p1 = subst (λ v. P v w.last w.count w.behind) (e ∙ ap (λ v. v ∷ xs) (sym same) ∙ sym (front-snoc [] first xs w.last)) w.rest in
        record {
          more = xs ++ w.last ∷ [];
          count = w.count;
          behind = w.behind;
          all = rest ∙ append_assoc (map (name Name) (xs ++ w.last ∷ [])) (replicate w.count star) w.behind;
          off_star = w.off_star;
          off_name = w.off_name;
          rest = subst (λ v. P (front_of [] first (xs ++ w.last ∷ [])) v w.count w.behind) (sym (last-snoc first xs w.last)) p1;
        }

-- ---- what may follow a type

-- another mark than a star comes first
abbrev pub Closed : List Piece → Type 0
Closed [] = ⊥
Closed (word w ∷ ps) = ⊥
Closed (mark b ∷ ps) = pointwise nat_eq b (codes "*") ≡ false
Closed (name sort n ∷ ps) = ⊥
Closed (number n ∷ ps) = ⊥
Closed (version_number version ∷ ps) = ⊥
Closed (kept bytes ∷ ps) = ⊥
Closed (newer version p ∷ ps) = ⊥
Closed (rule p ∷ ps) = ⊥

pub closed-star : (ps : List Piece) → Closed ps → Off (fits star) ps
closed-star (mark b ∷ ps) h = λ token is. mark-fits_mark b (codes "*") token is h
closed-star [] h = absurd h
closed-star (word w ∷ ps) h = absurd h
closed-star (name sort n ∷ ps) h = absurd h
closed-star (number n ∷ ps) h = absurd h
closed-star (version_number version ∷ ps) h = absurd h
closed-star (kept bytes ∷ ps) h = absurd h
closed-star (newer version p ∷ ps) h = absurd h
closed-star (rule p ∷ ps) h = absurd h

pub closed-sort : (sort : Sort) (ps : List Piece) → Closed ps → Off (has_sort sort) ps
closed-sort sort (mark b ∷ ps) h = λ token is. mark-has_sort sort token is.0
closed-sort sort [] h = absurd h
closed-sort sort (word w ∷ ps) h = absurd h
closed-sort sort (name other n ∷ ps) h = absurd h
closed-sort sort (number n ∷ ps) h = absurd h
closed-sort sort (version_number version ∷ ps) h = absurd h
closed-sort sort (kept bytes ∷ ps) h = absurd h
closed-sort sort (newer version p ∷ ps) h = absurd h
closed-sort sort (rule p ∷ ps) h = absurd h

pub name-star : (sort : Sort) (n : Named) (ps : List Piece) → Off (fits star) (name sort n ∷ ps)
name-star sort n ps token is = word-fits_mark (codes "*") token is.0

pub name-form : (n : Named) (ps : List Piece) → Off (has_sort Form) (name Name n ∷ ps)
name-form n ps token is = sort-has_sort Name Form token n is (name_apart form_words n.bytes refl is.3)

pub form-name : (n : Named) (ps : List Piece) → Off (has_sort Name) (name Form n ∷ ps)
form-name n ps token is = sort-has_sort Form Name token n is (reserved_apart form_words n.bytes refl is.3)
