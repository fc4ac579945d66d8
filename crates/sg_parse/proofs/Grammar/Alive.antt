-- Each state that is reached can be completed.
use Rattle.std.proofs.Common.{◌≡◌, ℕ, suc, ◌+◌, ◌==◌, inl, inr, Bool, true, false, if◌then◌else◌, List, [], ◌∷◌, ◌++◌, length, map, refl, sym, ap, subst, ◌∙◌, arith}
use Rattle.std.specs.Prelude.{None, Some, codes}
use Rattle.std.specs.declared.option.Option.{Option}
use Rattle.std.specs.Option.{option_map}
use Rattle.std.proofs.Math.Dec.{eqb-suc-zero}
use Rattle.std.proofs.lemmas.List.{append-nil}
use Rattle.std.proofs.lemmas.List.Elements.{All-nil}
use Rattle.sg_rules.specs.sg_lex.declared.token.TokenKind.TheVariants.{Word, Number, Mark}
use Rattle.sg_rules.specs.sg_lex.Lexeme.{Lexeme, Spelling as Named}
use Rattle.sg_parse.specs.declared.tree.Statement.{Statement}
use Rattle.sg_parse.specs.declared.tree.Ret.{Ret}
use Rattle.sg_parse.specs.declared.tree.Ret.TheVariants.{Plain, Set, Add, Sub}
use Rattle.sg_parse.specs.declared.tree.TypeName.{TypeName}
use Rattle.sg_parse.specs.declared.tree.Param.{Param}
use Rattle.sg_parse.specs.declared.tree.Tree.{Tree}
use Rattle.sg_parse.specs.declared.words.Sort.{Sort}
use Rattle.sg_parse.specs.declared.words.Sort.TheVariants.{Name, One, Two, Form, Parents, Closing, Flag}
use Rattle.sg_parse.specs.Grammar.Words.{is_of}
use Rattle.sg_rules.specs.sg_lex.Inside.Tests.{has_kind}
use Rattle.sg_rules.proofs.sg_lex.Automata.{Runs, runs-append}
use Rattle.sg_rules.specs.declared.version.Newer.{Newer}
use Rattle.sg_rules.specs.declared.version.Newer.TheVariants.{Second, Third}
use Rattle.sg_rules.specs.declared.tree.Rule.{Rule}
use Rattle.sg_rules.specs.Versions.{seen}
use Rattle.sg_rules.specs.Grammar.Words.{word_of}
use Rattle.sg_rules.specs.Grammar.Pieces.{RulePiece, fixed, word_at, name as name_in_rule, number as number_in_rule, IsRulePiece}
use Rattle.sg_rules.specs.Grammar.Inside.States.{RuleState, ruled, rule_reader, step as rule_step, rules_at}
use Rattle.sg_rules.proofs.Seen.{seen_back}
use Rattle.sg_rules.proofs.Grammar.Basics.{token_of as fixed_token}
use Rattle.sg_rules.proofs.Grammar.Steps.{spelt_from}
use Rattle.sg_rules.proofs.Grammar.Runs.{reached_end, rules_at_end}
use Rattle.sg_parse.specs.Grammar.Pieces.{Piece, word, mark, name, number, version_number, kept, newer, rule, IsPiece}
use Rattle.sg_rules.specs.sg_lex.Sentences.{ArePieces}
use Rattle.sg_parse.specs.Grammar.Sentence.{IsStatement}
use Rattle.sg_parse.specs.Grammar.Inside.Forms.{star, comma, close_brace, close_bracket, IsType}
use Rattle.sg_parse.specs.Grammar.Inside.States.{State, dead, due, fork, want, want_number, versioned, names, stars, either, listed, fielded, answering, statements, in_newer, has_sort, fits, named_by, type_of, declared, with_param, param, one_rest, two_rest, proto_rest, returned_after, returned_rest, external_rest, most_rest, unique_rest, answer_rest, kept_after, plain_rest, statement_after, with_statement, fact, head_end, first_end, newer_end, head0, head1, head2, head3, head4, head5, head6, start, answering_after, step}
use Rattle.sg_parse.proofs.Grammar.Basics.{some_is, none_is, by_test, if_then, if_else, mark-fits_mark}
use Rattle.sg_parse.proofs.Grammar.Rests.{Off, Rest, closed-star, name-star}
use Rattle.sg_parse.proofs.Grammar.Parts.{listed_closed}
use Rattle.sg_parse.proofs.Grammar.Protos.{head_is}

-- a token that is a piece
abbrev pub token_of : Piece → Lexeme
token_of (word w) = record { kind = Word; bytes = w; at = 0 }
token_of (mark b) = record { kind = Mark; bytes = b; at = 0 }
token_of (name sort n) = record { kind = Word; bytes = n.bytes; at = n.at }
token_of (number n) = record { kind = Number; bytes = n.bytes; at = n.at }
token_of (version_number Second) = record { kind = Number; bytes = codes "2"; at = 0 }
token_of (version_number Third) = record { kind = Number; bytes = codes "3"; at = 0 }
token_of (kept bytes) = record { kind = Mark; bytes = bytes; at = 0 }
token_of (newer version p) = seen version (token_of p)
token_of (rule (fixed p)) = fixed_token p
token_of (rule (word_at keyword at)) = record { kind = Word; bytes = word_of keyword; at = at }
token_of (rule (name_in_rule n)) = record { kind = Word; bytes = n.bytes; at = n.at }
token_of (rule (number_in_rule n)) = record { kind = Number; bytes = n.bytes; at = n.at }

-- no star may come first
abbrev pub Starless : State → Type 0
Starless dead = Unit {0}
Starless (due p s) = (token : Lexeme) → IsPiece token p → fits star token ≡ false
Starless (fork what s other) = ⊥
Starless (want sort k) = Unit {0}
Starless (want_number k) = ⊥
Starless (versioned two three) = ⊥
Starless (names front last k) = ⊥
Starless (stars front last n k) = ⊥
Starless (either k s) = Starless s
Starless (listed params k) = Unit {0}
Starless (fielded fields k) = ⊥
Starless (answering r k) = ⊥
Starless (statements facts before) = ⊥
Starless (in_newer version s) = ⊥

pub starless_off : (s : State) (p : Piece) (ps : List Piece) (tree : Tree) → Starless s → Rest s (p ∷ ps) tree → Off (fits star) (p ∷ ps)
starless_off dead p ps tree h r = absurd r
starless_off (due q s) p ps tree h r = λ token is. h token (subst (IsPiece token) (head_is r.all) is)
starless_off (fork what s other) p ps tree h r = absurd h
starless_off (want sort k) p ps tree h r = subst (Off (fits star)) (sym r.all) (name-star sort r.value r.behind)
starless_off (want_number k) p ps tree h r = absurd h
starless_off (versioned two three) p ps tree h r = absurd h
starless_off (names front last k) p ps tree h r = absurd h
starless_off (stars front last n k) p ps tree h r = absurd h
starless_off (either k s) p ps tree h r =
    elim r [
      | inl f ↦ subst (Off (fits star)) (sym f.all) (name-star Form f.value f.behind)
      | inr f ↦ starless_off s p ps tree h f.1
    ]
starless_off (listed params k) p ps tree h r = subst (Off (fits star)) (sym r.all) (closed-star _ (listed_closed r.more r.behind))
starless_off (fielded fields k) p ps tree h r = absurd h
starless_off (answering rs k) p ps tree h r = absurd h
starless_off (statements facts before) p ps tree h r = absurd h
starless_off (in_newer version s) p ps tree h r = absurd h

-- rules have been read up to a state
abbrev pub IsReached : RuleState → Type 0
IsReached r = (tokens : List Lexeme) × Runs rule_reader (ruled []) tokens r

-- the state can be completed; or, where it may be, it is dead
abbrev pub Alive : Bool → State → Type 0
Alive may dead = may ≡ true
Alive may (due p s) = IsPiece (token_of p) p × Alive false s
Alive may (fork what s other) = Alive false s × Alive true other
Alive may (want sort k) = (n : Named) → Alive false (k n)
Alive may (want_number k) = (n : Named) → Alive false (k n)
Alive may (versioned two three) = Alive false two × Alive false three
Alive may (names front last k) =
    ((front : List Named) (last : Named) (n : ℕ) → Alive true (k front last n))
    × ((front : List Named) (last : Named) (n : ℕ) → Alive false (k front last (suc n)) × Starless (k front last (suc n)))
Alive may (stars front last n k) = (m : ℕ) → Alive false (k front last (n + m)) × Starless (k front last (n + m))
Alive may (either k s) = ((n : Named) → Alive false (k n)) × Alive true s
Alive may (listed params k) = (params : List Param) → Alive false (k params)
Alive may (fielded fields k) = (fields : List Named) → Alive false (k fields)
Alive may (answering r k) = IsReached r × ((rules : List Rule) → Alive false (k rules))
Alive may (statements facts before) = Unit {0}
Alive may (in_newer version s) = Alive may s

-- ---- a state that is alive can be completed

-- a word of each sort
example_of : Sort → Named
example_of Name = record { bytes = codes "x"; at = 0 }
example_of One = record { bytes = codes "sm_block"; at = 0 }
example_of Two = record { bytes = codes "sm_state"; at = 0 }
example_of Form = record { bytes = codes "desc"; at = 0 }
example_of Parents = record { bytes = codes "none"; at = 0 }
example_of Closing = record { bytes = codes "refuse"; at = 0 }
example_of Flag = record { bytes = codes "true"; at = 0 }

example-is : (sort : Sort) → is_of sort (example_of sort).bytes ≡ true
unfolding example_of
example-is Name = refl
example-is One = refl
example-is Two = refl
example-is Form = refl
example-is Parents = refl
example-is Closing = refl
example-is Flag = refl

-- tokens that complete a tree from a state
pub record Completed (s : State) : Type 0 where
  pub tokens : List Lexeme
  pub pieces : List Piece
  pub tree : Tree
  pub are : ArePieces IsPiece tokens pieces
  pub rest : Rest s pieces tree

-- a completion has a first piece, or is of the state before a statement
off_all : (s : State) (ps : List Piece) (tree : Tree) → Starless s → Rest s ps tree → Off (fits star) ps
off_all s [] tree h r = tt
off_all s (p ∷ ps) tree h r = starless_off s p ps tree h r

-- tokens of a text of a version, which are turned back
all_seen : (version : Newer) (tokens : List Lexeme) (pieces : List Piece) → ArePieces IsPiece tokens pieces → ArePieces IsPiece (map (seen version) tokens) (map (newer version) pieces)
all_seen version [] [] are = tt
all_seen version [] (p ∷ ps) are = absurd are
all_seen version (t ∷ ts) [] are = absurd are
all_seen version (t ∷ ts) (p ∷ ps) are = (subst (λ v. IsPiece v p) (sym (seen_back version t)) are.0, all_seen version ts ps are.1)

-- tokens of rules, and others
all_rules : (tokens more : List Lexeme) (qs : List RulePiece) (ps : List Piece) → ArePieces IsRulePiece tokens qs → ArePieces IsPiece more ps
    → ArePieces IsPiece (tokens ++ more) (map rule qs ++ ps)
all_rules [] more [] ps are others = others
all_rules [] more (q ∷ qs) ps are others = absurd are
all_rules (t ∷ ts) more [] ps are others = absurd are
all_rules (t ∷ ts) more (q ∷ qs) ps are others = (are.0, all_rules ts more qs ps are.1 others)

pub completed : (s : State) → Alive false s → Completed s
completed dead h = absurd (let e : false ≡ true = h in cc)
completed (due p s) h =
    let c = completed s h.1 in
    record {
      tokens = token_of p ∷ c.tokens;
      pieces = p ∷ c.pieces;
      tree = c.tree;
      are = (h.0, c.are);
      rest = record { behind = c.pieces; all = refl; rest = c.rest };
    }
completed (fork what s other) h =
    let c = completed s h.0 in
    record {
      tokens = token_of (word what) ∷ c.tokens;
      pieces = word what ∷ c.pieces;
      tree = c.tree;
      are = ((refl, refl), c.are);
      rest = inl (record { behind = c.pieces; all = refl; rest = c.rest });
    }
completed (want sort k) h =
    let n = example_of sort in
    let c = completed (k n) (h n) in
    record {
      tokens = token_of (name sort n) ∷ c.tokens;
      pieces = name sort n ∷ c.pieces;
      tree = c.tree;
      are = ((refl, refl, refl, example-is sort), c.are);
      rest = record { value = n; behind = c.pieces; all = refl; rest = c.rest };
    }
completed (want_number k) h =
    let n : Named = record { bytes = codes "0"; at = 0 } in
    let c = completed (k n) (h n) in
    record {
      tokens = token_of (number n) ∷ c.tokens;
      pieces = number n ∷ c.pieces;
      tree = c.tree;
      are = ((refl, refl, refl), c.are);
      rest = record { value = n; behind = c.pieces; all = refl; rest = c.rest };
    }
completed (versioned two three) h =
    let c = completed two h.0 in
    record {
      tokens = token_of (version_number Second) ∷ c.tokens;
      pieces = version_number Second ∷ c.pieces;
      tree = c.tree;
      are = ((refl, refl), c.are);
      rest = inl (record { behind = c.pieces; all = refl; rest = c.rest });
    }
completed (names front last k) h =
    let c = completed (k front last 1) (h.1 front last 0).0 in
    record {
      tokens = token_of star ∷ c.tokens;
      pieces = star ∷ c.pieces;
      tree = c.tree;
      are = ((refl, refl), c.are);
      rest = record {
        more = [];
        count = 1;
        behind = c.pieces;
        all = refl;
        off_star = off_all (k front last 1) c.pieces c.tree (h.1 front last 0).1 c.rest;
        off_name = λ z. absurd (let f : 1 ≡ 0 = z in omega arith);
        rest = c.rest;
      };
    }
completed (stars front last n k) h =
    let c = completed (k front last (n + 0)) (h 0).0 in
    record {
      tokens = c.tokens;
      pieces = c.pieces;
      tree = c.tree;
      are = c.are;
      rest = record {
        count = 0;
        behind = c.pieces;
        all = refl;
        off_star = off_all (k front last (n + 0)) c.pieces c.tree (h 0).1 c.rest;
        rest = c.rest;
      };
    }
completed (either k s) h =
    let n = example_of Form in
    let c = completed (k n) (h.0 n) in
    record {
      tokens = token_of (name Form n) ∷ c.tokens;
      pieces = name Form n ∷ c.pieces;
      tree = c.tree;
      are = ((refl, refl, refl, example-is Form), c.are);
      rest = inl (record { value = n; behind = c.pieces; all = refl; rest = c.rest });
    }
completed (listed params k) h =
    let c = completed (k params) (h params) in
    record {
      tokens = token_of close_bracket ∷ c.tokens;
      pieces = close_bracket ∷ c.pieces;
      tree = c.tree;
      are = ((refl, refl), c.are);
      rest = record {
        more = [];
        behind = c.pieces;
        all = refl;
        types = All-nil (λ q. IsType q.ty);
        rest = subst (λ v. Rest (k v) c.pieces c.tree) (sym (append-nil params)) c.rest;
      };
    }
completed (fielded fields k) h =
    let c = completed (k fields) (h fields) in
    record {
      tokens = token_of close_bracket ∷ c.tokens;
      pieces = close_bracket ∷ c.pieces;
      tree = c.tree;
      are = ((refl, refl), c.are);
      rest = record {
        more = [];
        behind = c.pieces;
        all = refl;
        rest = subst (λ v. Rest (k v) c.pieces c.tree) (sym (append-nil fields)) c.rest;
      };
    }
completed (answering r k) h =
    let e = reached_end h.0.0 r h.0.1 in
    let s = spelt_from r (ruled e.rules) e.tokens e.runs in
    let c = completed (k e.rules) (h.1 e.rules) in
    record {
      tokens = e.tokens ++ token_of close_brace ∷ c.tokens;
      pieces = map rule s.pieces ++ close_brace ∷ c.pieces;
      tree = c.tree;
      are = all_rules e.tokens (token_of close_brace ∷ c.tokens) s.pieces (close_brace ∷ c.pieces) s.are ((refl, refl), c.are);
      rest = record {
        pieces = s.pieces;
        end = ruled e.rules;
        rules = e.rules;
        behind = c.pieces;
        all = refl;
        goes = s.goes;
        ends = rules_at_end e.rules e.some;
        rest = c.rest;
      };
    }
completed (statements facts before) h =
    record {
      tokens = [];
      pieces = [];
      tree = record { facts = facts; statements = before };
      are = tt;
      rest = record {
        more = [];
        all = refl;
        each = All-nil IsStatement;
        is = ap (λ v. record { facts = facts; statements = v }) (sym (append-nil before));
      };
    }
completed (in_newer version s) h =
    let c = completed s h in
    record {
      tokens = map (seen version) c.tokens;
      pieces = map (newer version) c.pieces;
      tree = c.tree;
      are = all_seen version c.tokens c.pieces c.are;
      rest = record { behind = c.pieces; all = refl; rest = c.rest };
    }

-- ---- the states of the grammar are alive

weaker : (s : State) → Alive false s → Alive true s
weaker dead h = refl
weaker (due p s) h = h
weaker (fork what s other) h = h
weaker (want sort k) h = h
weaker (want_number k) h = h
weaker (versioned two three) h = h
weaker (names front last k) h = h
weaker (stars front last n k) h = h
weaker (either k s) h = h
weaker (listed params k) h = h
weaker (fielded fields k) h = h
weaker (answering r k) h = h
weaker (statements facts before) h = h
weaker (in_newer version s) h = weaker s h

declared_alive : (go : TypeName → Named → State) → ((ty : TypeName) (n : Named) → Alive false (go ty n))
    → (front : List Named) (last : Named) (n : ℕ) → Alive true (declared go front last n)
declared_alive go h front last n =
    by_test (n == 0)
    (λ e. subst (Alive true) (sym (if_then (n == 0) _ (want Name (λ m. go (type_of front last n) m)) e))
    (by_test (length front == 0)
    (λ f. subst (Alive true) (sym (if_then (length front == 0) dead (go (record { names = front; stars = 0 }) last) f)) refl)
    (λ f. subst (Alive true) (sym (if_else (length front == 0) dead (go (record { names = front; stars = 0 }) last) f))
    (weaker (go (record { names = front; stars = 0 }) last) (h (record { names = front; stars = 0 }) last)))))
    (λ e. subst (Alive true) (sym (if_else (n == 0) _ (want Name (λ m. go (type_of front last n) m)) e))
    (λ m. h (type_of front last n) m))

declared_starred : (go : TypeName → Named → State) → ((ty : TypeName) (n : Named) → Alive false (go ty n))
    → (front : List Named) (last : Named) (n : ℕ) → Alive false (declared go front last (suc n)) × Starless (declared go front last (suc n))
declared_starred go h front last n =
    let e = sym (if_else (suc n == 0) (if length front == 0 then dead else go (record { names = front; stars = 0 }) last)
    (want Name (λ m. go (type_of front last (suc n)) m)) (eqb-suc-zero n)) in
    (subst (Alive false) e (λ m. h (type_of front last (suc n)) m), subst Starless e tt)

pub param_alive : (k : List Param → State) (params : List Param) → ((params : List Param) → Alive false (k params)) → Alive false (param k params)
param_alive k params h first = (
  (λ front last n. ((λ form. ((refl, refl), λ m. ((refl, refl), h))), declared_alive (λ ty m. with_param k params ty None m) (λ ty m. h) front last n)),
  (λ front last n. (
    ((λ form. ((refl, refl), λ m. ((refl, refl), h))), (declared_alive (λ ty m. with_param k params ty None m) (λ ty m. h) front last (suc n))),
    (declared_starred (λ ty m. with_param k params ty None m) (λ ty m. h) front last n).1,
  )),
)

proto_alive : (go : Statement → State) → ((s : Statement) → Alive false (go s)) → (ret : Ret) (n : Named) → Alive false (proto_rest go ret n)
proto_alive go h ret n = ((refl, refl), param_alive (λ params. due (mark (codes ";")) (go (Statement.Proto ret n params))) [] (λ params. ((refl, refl), h (Statement.Proto ret n params))))

returned_alive : (go : Statement → State) → ((s : Statement) → Alive false (go s)) → (make : TypeName → Named → Ret) → Alive false (returned_rest go make)
returned_alive go h make = (
  (refl, refl),
  λ first. (
    (λ front last n. behind front last n),
    (λ front last n. (after_false front last (suc n), λ token is. mark-fits_mark (codes ",") (codes "*") token is refl)),
  ),
)
  where
    after_false : (front : List Named) (last : Named) (n : ℕ) → Alive false (returned_after go make front last n)
    after_false front last n = ((refl, refl), λ field. ((refl, refl), λ m. proto_alive go h (make (type_of front last n) field) m))

    behind : (front : List Named) (last : Named) (n : ℕ) → Alive true (returned_after go make front last n)
    behind front last n = ((refl, refl), λ field. ((refl, refl), λ m. proto_alive go h (make (type_of front last n) field) m))

plain_alive : (go : Statement → State) → ((s : Statement) → Alive false (go s)) → (first : Named) → Alive false (plain_rest go first)
plain_alive go h first = (
  declared_alive (λ ty n. proto_rest go (Plain ty) n) (λ ty n. proto_alive go h (Plain ty) n),
  declared_starred (λ ty n. proto_rest go (Plain ty) n) (λ ty n. proto_alive go h (Plain ty) n),
)

answer_alive : (go : Statement → State) → ((s : Statement) → Alive false (go s)) → Alive false (answer_rest go)
answer_alive go h = ((refl, refl), λ fun. ((refl, refl), ((refl, refl), (([], refl), λ rules. h (Statement.Answer fun rules)))))

-- a word that a version keeps for itself, or else another statement
kept_alive : (go : Statement → State) → ((s : Statement) → Alive false (go s)) → (token : Lexeme) (next : State) (other : Option State)
    → kept_after go token other ≡ Some next → (other ≡ Some next → Alive false next) → Alive false next
kept_alive go h token next other e others =
    by_test (fits (kept (codes "desc_data_retval_sub")) token)
    (λ t. along (returned_rest go Sub) (sym (if_then (fits (kept (codes "desc_data_retval_sub")) token) _ _ t) ∙ e) (returned_alive go h Sub))
    (λ t1. let e1 = sym (if_else (fits (kept (codes "desc_data_retval_sub")) token) _ _ t1) ∙ e in
    by_test (fits (kept (codes "sm_external")) token)
    (λ t. along (external_rest go) (sym (if_then (fits (kept (codes "sm_external")) token) _ _ t) ∙ e1)
    ((refl, refl), λ fun. ((refl, refl), ((refl, refl), h (Statement.External fun)))))
    (λ t2. let e2 = sym (if_else (fits (kept (codes "sm_external")) token) _ _ t2) ∙ e1 in
    by_test (fits (kept (codes "desc_data_most")) token)
    (λ t. along (most_rest go) (sym (if_then (fits (kept (codes "desc_data_most")) token) _ _ t) ∙ e2)
    ((refl, refl), λ field. ((refl, refl), λ most. ((refl, refl), ((refl, refl), h (Statement.Most field most))))))
    (λ t3. let e3 = sym (if_else (fits (kept (codes "desc_data_most")) token) _ _ t3) ∙ e2 in
    by_test (fits (kept (codes "desc_data_unique")) token)
    (λ t. along (unique_rest go) (sym (if_then (fits (kept (codes "desc_data_unique")) token) _ _ t) ∙ e3)
    ((refl, refl), λ first. λ fields. ((refl, refl), h (Statement.Unique fields))))
    (λ t4. let e4 = sym (if_else (fits (kept (codes "desc_data_unique")) token) _ _ t4) ∙ e3 in
    by_test (fits (kept (codes "sm_answer")) token)
    (λ t. along (answer_rest go) (sym (if_then (fits (kept (codes "sm_answer")) token) _ _ t) ∙ e4) (answer_alive go h))
    (λ t5. others (sym (if_else (fits (kept (codes "sm_answer")) token) _ _ t5) ∙ e4))))))
  where
    along : (s : State) → Some s ≡ Some next → Alive false s → Alive false next
    along s g a = subst (Alive false) (some_is s next g) a

statement_alive : (go : Statement → State) → ((s : Statement) → Alive false (go s)) → (token : Lexeme) (next : State) → statement_after go token ≡ Some next → Alive false next
statement_alive go h token next e =
    by_test (has_sort One token)
    (λ t. along (one_rest go (named_by token)) (sym (if_then (has_sort One token) _ _ t) ∙ e)
    ((refl, refl), λ fun. ((refl, refl), ((refl, refl), h (Statement.One (named_by token) fun)))))
    (λ t1. let e1 = sym (if_else (has_sort One token) _ _ t1) ∙ e in
    by_test (has_sort Two token)
    (λ t. along (two_rest go (named_by token)) (sym (if_then (has_sort Two token) _ _ t) ∙ e1)
    ((refl, refl), λ first. ((refl, refl), λ second. ((refl, refl), ((refl, refl), h (Statement.Two (named_by token) first second))))))
    (λ t2. let e2 = sym (if_else (has_sort Two token) _ _ t2) ∙ e1 in
    by_test (fits (word (codes "desc_data_retval")) token)
    (λ t. along (returned_rest go Set) (sym (if_then (fits (word (codes "desc_data_retval")) token) _ _ t) ∙ e2) (returned_alive go h Set))
    (λ t3. let e3 = sym (if_else (fits (word (codes "desc_data_retval")) token) _ _ t3) ∙ e2 in
    by_test (fits (word (codes "desc_data_retval_add")) token)
    (λ t. along (returned_rest go Add) (sym (if_then (fits (word (codes "desc_data_retval_add")) token) _ _ t) ∙ e3) (returned_alive go h Add))
    (λ t4. let e4 = sym (if_else (fits (word (codes "desc_data_retval_add")) token) _ _ t4) ∙ e3 in
    kept_alive go h token next (if has_sort Name token then Some (plain_rest go (named_by token)) else None) e4
    (λ e5.
    by_test (has_sort Name token)
    (λ t. along (plain_rest go (named_by token)) (sym (if_then (has_sort Name token) _ _ t) ∙ e5) (plain_alive go h (named_by token)))
    (λ t6. none_is (Alive false next) next (if has_sort Name token then Some (plain_rest go (named_by token)) else None)
    (if_else (has_sort Name token) (Some (plain_rest go (named_by token))) None t6) e5))))))
  where
    along : (s : State) → Some s ≡ Some next → Alive false s → Alive false next
    along s g a = subst (Alive false) (some_is s next g) a

pub alive_after : (may : Bool) (s : State) (token : Lexeme) (next : State) → Alive may s → step s token ≡ Some next → Alive false next
unfolding step
alive_after may dead token next a e = none_is (Alive false next) next None refl e
alive_after may (due p s) token next a e =
    by_test (fits p token)
    (λ h. subst (Alive false) (some_is s next (sym (if_then (fits p token) (Some s) None h) ∙ e)) a.1)
    (λ h. none_is (Alive false next) next (if fits p token then Some s else None) (if_else (fits p token) (Some s) None h) e)
alive_after may (fork what s other) token next a e =
    by_test (fits (word what) token)
    (λ h. subst (Alive false) (some_is s next (sym (if_then (fits (word what) token) _ _ h) ∙ e)) a.0)
    (λ h. alive_after true other token next a.1 (sym (if_else (fits (word what) token) (Some s) (step other token) h) ∙ e))
alive_after may (want sort k) token next a e =
    by_test (has_sort sort token)
    (λ h. subst (Alive false) (some_is (k (named_by token)) next (sym (if_then (has_sort sort token) (Some (k (named_by token))) None h) ∙ e)) (a (named_by token)))
    (λ h. none_is (Alive false next) next (if has_sort sort token then Some (k (named_by token)) else None)
    (if_else (has_sort sort token) (Some (k (named_by token))) None h) e)
alive_after may (want_number k) token next a e =
    by_test (has_kind Number token)
    (λ h. subst (Alive false) (some_is (k (named_by token)) next (sym (if_then (has_kind Number token) (Some (k (named_by token))) None h) ∙ e)) (a (named_by token)))
    (λ h. none_is (Alive false next) next (if has_kind Number token then Some (k (named_by token)) else None)
    (if_else (has_kind Number token) (Some (k (named_by token))) None h) e)
alive_after may (versioned two three) token next a e =
    by_test (fits (version_number Second) token)
    (λ h. subst (Alive false) (some_is two next (sym (if_then (fits (version_number Second) token) _ _ h) ∙ e)) a.0)
    (λ h1. let e1 = sym (if_else (fits (version_number Second) token) _ _ h1) ∙ e in
    by_test (fits (version_number Third) token)
    (λ h. subst (Alive false) (some_is three next (sym (if_then (fits (version_number Third) token) _ _ h) ∙ e1)) a.1)
    (λ h. none_is (Alive false next) next (if fits (version_number Third) token then Some three else None)
    (if_else (fits (version_number Third) token) (Some three) None h) e1))
alive_after may (names front last k) token next a e =
    by_test (has_sort Name token)
    (λ h. subst (Alive false) (some_is (names (front ++ last ∷ []) (named_by token) k) next (sym (if_then (has_sort Name token) _ _ h) ∙ e)) (a.0, a.1))
    (λ h1. let e1 = sym (if_else (has_sort Name token) _ _ h1) ∙ e in
    by_test (fits star token)
    (λ h. subst (Alive false) (some_is (stars front last 1 k) next (sym (if_then (fits star token) _ _ h) ∙ e1))
    (λ m. subst (λ v. Alive false (k front last v) × Starless (k front last v)) (let f : suc m ≡ 1 + m = omega arith in f) (a.1 front last m)))
    (λ h2. alive_after true (k front last 0) token next (a.0 front last 0)
    (sym (if_else (fits star token) (Some (stars front last 1 k)) (step (k front last 0) token) h2) ∙ e1)))
alive_after may (stars front last n k) token next a e =
    by_test (fits star token)
    (λ h. subst (Alive false) (some_is (stars front last (n + 1) k) next (sym (if_then (fits star token) _ _ h) ∙ e))
    (λ m. subst (λ v. Alive false (k front last v) × Starless (k front last v)) (let f : n + suc m ≡ n + 1 + m = omega arith in f) (a (suc m))))
    (λ h. alive_after false (k front last n) token next (subst (λ v. Alive false (k front last v)) (let f : n + 0 ≡ n = omega arith in f) (a 0).0)
    (sym (if_else (fits star token) (Some (stars front last (n + 1) k)) (step (k front last n) token) h) ∙ e))
alive_after may (either k s) token next a e =
    by_test (has_sort Form token)
    (λ h. subst (Alive false) (some_is (k (named_by token)) next (sym (if_then (has_sort Form token) _ _ h) ∙ e)) (a.0 (named_by token)))
    (λ h. alive_after true s token next a.1 (sym (if_else (has_sort Form token) (Some (k (named_by token))) (step s token) h) ∙ e))
alive_after may (listed params k) token next a e =
    by_test (fits comma token)
    (λ h. subst (Alive false) (some_is (param k params) next (sym (if_then (fits comma token) _ _ h) ∙ e)) (param_alive k params a))
    (λ h1. let e1 = sym (if_else (fits comma token) _ _ h1) ∙ e in
    by_test (fits close_bracket token)
    (λ h. subst (Alive false) (some_is (k params) next (sym (if_then (fits close_bracket token) _ _ h) ∙ e1)) (a params))
    (λ h. none_is (Alive false next) next (if fits close_bracket token then Some (k params) else None)
    (if_else (fits close_bracket token) (Some (k params)) None h) e1))
alive_after may (fielded fields k) token next a e =
    by_test (fits comma token)
    (λ h. subst (Alive false) (some_is (want Name (λ n. fielded (fields ++ n ∷ []) k)) next (sym (if_then (fits comma token) _ _ h) ∙ e)) (λ n. a))
    (λ h1. let e1 = sym (if_else (fits comma token) _ _ h1) ∙ e in
    by_test (fits close_bracket token)
    (λ h. subst (Alive false) (some_is (k fields) next (sym (if_then (fits close_bracket token) _ _ h) ∙ e1)) (a fields))
    (λ h. none_is (Alive false next) next (if fits close_bracket token then Some (k fields) else None)
    (if_else (fits close_bracket token) (Some (k fields)) None h) e1))
alive_after may (answering r k) token next a e = by (rule_step r token) (rules_at r) refl e
  where
    by : (found : Option RuleState) (rules : Option (List Rule)) → rule_step r token ≡ found → answering_after k token found rules ≡ Some next → Alive false next
    by (Some inner) rules is found =
        subst (Alive false) (some_is (answering inner k) next found)
        ((a.0.0 ++ token ∷ [], runs-append rule_reader (ruled []) r inner a.0.0 (token ∷ []) a.0.1 (inner, is, refl)), a.1)
    by None (Some rules) is found =
        by_test (fits close_brace token)
        (λ h. subst (Alive false) (some_is (k rules) next (sym (if_then (fits close_brace token) (Some (k rules)) None h) ∙ found)) (a.1 rules))
        (λ h. none_is (Alive false next) next (if fits close_brace token then Some (k rules) else None) (if_else (fits close_brace token) (Some (k rules)) None h) found)
    by None None is found = none_is (Alive false next) next None refl found
alive_after may (statements facts before) token next a e =
    statement_alive (with_statement facts before) (λ s. tt) token next e
alive_after may (in_newer version s) token next a e = by (λ inner is. alive_after may s (seen version token) inner a is) (step s (seen version token)) refl e
  where
    by : ((inner : State) → step s (seen version token) ≡ Some inner → Alive false inner) → (found : Option State) → step s (seen version token) ≡ found
        → option_map (in_newer version) found ≡ Some next → Alive false next
    by deeper None is found = absurd (cc found)
    by deeper (Some inner) is found = subst (Alive false) (some_is (in_newer version inner) next found) (deeper inner is)

-- the end of the head
end_alive : (version : ℕ) (eager : Bool) (a b c d e f g : Named) → Alive false (head_end version eager a b c d e f g)
end_alive version eager a b c d e f g = ((refl, refl), ((refl, refl), tt))

-- a fact of the head
fact_alive : (what : List ℕ) (sort : Sort) (go : Named → State) → ((n : Named) → Alive false (go n)) → Alive false (fact what sort comma go)
fact_alive what sort go all = ((refl, refl), ((refl, refl), λ n. ((refl, refl), all n)))

-- the facts of the head
head_alive : (end : (a b c d e f g : Named) → State) → ((a b c d e f g : Named) → Alive false (end a b c d e f g)) → Alive false (head0 end)
head_alive end all =
    fact_alive (codes "service") Name (head1 end) (λ a.
    fact_alive (codes "desc_has_parent") Parents (head2 end a) (λ b.
    fact_alive (codes "desc_close") Closing (head3 end a b) (λ c.
    fact_alive (codes "desc_is_global") Flag (head4 end a b c) (λ d.
    fact_alive (codes "desc_block") Flag (head5 end a b c d) (λ e.
    fact_alive (codes "desc_has_data") Flag (head6 end a b c d e) (λ f.
    ((refl, refl), ((refl, refl), λ g. all a b c d e f g))))))))

-- the head of a text of a version after the first
newer_alive : (version : ℕ) → Alive false (head0 (newer_end version))
newer_alive version =
    head_alive (newer_end version) (λ a b c d e f g. (
      (refl, refl),
      ((refl, refl), ((refl, refl), (end_alive version true a b c d e f g, ((refl, refl), end_alive version false a b c d e f g)))),
    ))

pub start_alive : Alive false start
start_alive = (
  (refl, refl),
  (
    (refl, refl),
    (
      (refl, refl),
      (
        ((refl, refl), (((refl, refl), newer_alive 2), ((refl, refl), newer_alive 3))),
        weaker (head0 first_end) (head_alive first_end (end_alive 1 false)),
      ),
    ),
  ),
)
