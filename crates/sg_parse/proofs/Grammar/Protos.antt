-- Statements: from the state before one, and as pieces.
use Rattle.std.proofs.Common.{◌≡◌, ◌≢◌, ℕ, true, if◌then◌else◌, List, [], ◌∷◌, ◌++◌, map, refl, sym, ap, subst, ◌∙◌, append_assoc}
use Rattle.std.specs.Prelude.{None, Some, All, codes}
use Rattle.std.specs.declared.option.Option.{Option}
use Rattle.std.specs.List.{flat_map}
use Rattle.std.proofs.lemmas.List.Elements.{All-cons, All-head, All-tail}
use Rattle.sg_rules.specs.sg_lex.declared.token.TokenKind.TheVariants.{Word, Mark}
use Rattle.sg_rules.specs.sg_lex.Lexeme.{Lexeme, Spelling as Named}
use Rattle.sg_parse.specs.declared.tree.Statement.{Statement}
use Rattle.sg_parse.specs.declared.tree.Statement.TheVariants.{One, Two, Proto, External, Most, Unique, Answer}
use Rattle.sg_parse.specs.declared.tree.Ret.{Ret}
use Rattle.sg_parse.specs.declared.tree.Ret.TheVariants.{Plain, Set, Add, Sub}
use Rattle.sg_parse.specs.declared.tree.TypeName.{TypeName}
use Rattle.sg_parse.specs.declared.tree.Param.{Param}
use Rattle.sg_parse.specs.declared.tree.Tree.{Tree}
use Rattle.sg_parse.specs.declared.words.Sort.TheVariants.{Name, One as one_word, Two as two_word}
use Rattle.sg_parse.specs.Grammar.Inside.Words.{one_words, two_words}
use Rattle.sg_rules.specs.Grammar.Sentence.{rule_pieces}
use Rattle.sg_rules.specs.Grammar.Inside.States.{ruled}
use Rattle.sg_rules.proofs.Grammar.Runs.{pieces_go, rules_at_end, rules_ended}
use Rattle.sg_parse.specs.Grammar.Pieces.{Piece, word, name, number, kept, rule, IsPiece}
use Rattle.sg_parse.specs.Grammar.Sentence.{type_pieces, param_pieces, ret_pieces, statement_pieces, IsStatement}
use Rattle.sg_parse.specs.Grammar.Inside.Forms.{comma, semicolon, open_brace, close_brace, open_bracket, close_bracket, more_fields, more_params, params_pieces, returned_pieces, IsType, IsRet}
use Rattle.sg_parse.specs.Grammar.Inside.States.{State, due, want, has_sort, fits, named_by, type_of, declared, param, one_rest, two_rest, proto_rest, returned_after, returned_rest, external_rest, most_rest, unique_rest, answer_rest, kept_after, answering, plain_rest, statement_after}
use Rattle.sg_parse.proofs.Grammar.Basics.{some_is, none_is, by_test, if_then, if_else, has_sort-is, is-has_sort, named, fits-is, is-fits, sort-has_sort, sort-fits_word, word-has_sort, word-fits_word, word-fits_kept, kept-fits_kept, mark-has_sort, mark-fits_word, apart, name_apart}
use Rattle.sg_parse.proofs.Grammar.Rests.{Rest, Whole, whole_of, closed-star, closed-sort}
use Rattle.sg_parse.proofs.Grammar.Parts.{declared_back, declared_forth, param_back, param_forth, type_forth, ends, listed_closed}

pub head_is : {X : Type 0} {x y : X} {xs ys : List X} → x ∷ xs ≡ y ∷ ys → x ≡ y
head_is e = cc

pub tail_is : {X : Type 0} {x y : X} {xs ys : List X} → x ∷ xs ≡ y ∷ ys → xs ≡ ys
tail_is e = cc

-- ---- after the name of a prototype

pub record ProtoRest (P : List Param → List Piece → Type 0) (ps : List Piece) : Type 0 where
  pub params : List Param
  pub behind : List Piece
  pub all : ps ≡ open_bracket ∷ (params_pieces params ++ close_bracket ∷ semicolon ∷ behind)
  pub full : params ≢ []
  pub types : All (λ p. IsType p.ty) params
  pub rest : P params behind

proto_back : (go : Statement → State) (ret : Ret) (n : Named) (tree : Tree) (ps : List Piece) → Rest (proto_rest go ret n) ps tree
    → ProtoRest (λ params behind. Rest (go (Proto ret n params)) behind tree) ps
proto_back go ret n tree ps r =
    let p = param_back (λ params. due semicolon (go (Proto ret n params))) [] tree r.behind r.rest in
    let more = p.rest in
    let last = more.rest in
    record {
      params = p.value ∷ more.more;
      behind = last.behind;
      all = r.all ∙ ap (λ v. open_bracket ∷ v)
          (p.all ∙ ap (λ v. param_pieces p.value ++ v) (more.all ∙ ap (λ v. more_params more.more ++ close_bracket ∷ v) last.all)
          ∙ sym (append_assoc (param_pieces p.value) (more_params more.more) (close_bracket ∷ semicolon ∷ last.behind)));
      full = λ e. cc;
      types = All-cons (λ q. IsType q.ty) p.value more.more p.is_type more.types;
      rest = last.rest;
    }

proto_forth : (go : Statement → State) (ret : Ret) (n : Named) (tree : Tree) (params : List Param) (qs : List Piece)
    → params ≢ [] → All (λ p. IsType p.ty) params → Rest (go (Proto ret n params)) qs tree
    → Rest (proto_rest go ret n) (open_bracket ∷ (params_pieces params ++ close_bracket ∷ semicolon ∷ qs)) tree
proto_forth go ret n tree [] qs full types r = absurd (full refl)
proto_forth go ret n tree (p ∷ more) qs full types r =
    let end : List Piece = close_bracket ∷ semicolon ∷ qs in
    let k = λ (params : List Param). due semicolon (go (Proto ret n params)) in
    let whole = param_forth k [] tree p (more_params more ++ end) (All-head (λ q. IsType q.ty) p more types) (listed_closed more (semicolon ∷ qs))
    (record {
      more = more;
      behind = semicolon ∷ qs;
      all = refl;
      types = All-tail (λ q. IsType q.ty) p more types;
      rest = record { behind = qs; all = refl; rest = r };
    }) in
    record {
      behind = params_pieces (p ∷ more) ++ end;
      all = refl;
      rest = subst (λ v. Rest (param k []) v tree) (sym (append_assoc (param_pieces p) (more_params more) end)) whole;
    }

-- the pieces of a prototype with what follows them
proto_all : (ret : Ret) (n : Named) (params : List Param) (qs : List Piece)
    → ret_pieces ret ++ (name Name n ∷ open_bracket ∷ (params_pieces params ++ close_bracket ∷ semicolon ∷ qs)) ≡ statement_pieces (Proto ret n params) ++ qs
proto_all ret n params qs =
    ap (λ v. ret_pieces ret ++ (name Name n ∷ open_bracket ∷ v)) (sym (append_assoc (params_pieces params) (close_bracket ∷ semicolon ∷ []) qs))
    ∙ sym (append_assoc (ret_pieces ret) (name Name n ∷ open_bracket ∷ (params_pieces params ++ close_bracket ∷ semicolon ∷ [])) qs)

-- ---- statements

-- the token and these pieces are a statement, and what follows it
pub record Spelled (go : Statement → State) (tree : Tree) (token : Lexeme) (ps : List Piece) : Type 0 where
  pub piece : Piece
  pub statement : Statement
  pub behind : List Piece
  pub is : IsPiece token piece
  pub all : piece ∷ ps ≡ statement_pieces statement ++ behind
  pub is_statement : IsStatement statement
  pub rest : Rest (go statement) behind tree

one_back : (go : Statement → State) (tree : Tree) (token : Lexeme) (ps : List Piece) → has_sort one_word token ≡ true → Rest (one_rest go (named_by token)) ps tree → Spelled go tree token ps
one_back go tree token ps h r =
    let fun = r.rest in let close = fun.rest in let end = close.rest in
    record {
      piece = name one_word (named_by token);
      statement = One (named_by token) fun.value;
      behind = end.behind;
      is = has_sort-is one_word token h;
      all = ap (λ v. name one_word (named_by token) ∷ v) (r.all ∙ ap (λ v. open_bracket ∷ v) (fun.all ∙ ap (λ v. name Name fun.value ∷ v) (close.all ∙ ap (λ v. close_bracket ∷ v) end.all)));
      is_statement = tt;
      rest = end.rest;
    }

two_back : (go : Statement → State) (tree : Tree) (token : Lexeme) (ps : List Piece) → has_sort two_word token ≡ true → Rest (two_rest go (named_by token)) ps tree → Spelled go tree token ps
two_back go tree token ps h r =
    let first = r.rest in let sep = first.rest in let second = sep.rest in let close = second.rest in let end = close.rest in
    record {
      piece = name two_word (named_by token);
      statement = Two (named_by token) first.value second.value;
      behind = end.behind;
      is = has_sort-is two_word token h;
      all = ap (λ v. name two_word (named_by token) ∷ v) (r.all ∙ ap (λ v. open_bracket ∷ v) (first.all ∙ ap (λ v. name Name first.value ∷ v)
          (sep.all ∙ ap (λ v. comma ∷ v) (second.all ∙ ap (λ v. name Name second.value ∷ v) (close.all ∙ ap (λ v. close_bracket ∷ v) end.all)))));
      is_statement = tt;
      rest = end.rest;
    }

plain_back : (go : Statement → State) (tree : Tree) (token : Lexeme) (ps : List Piece) → has_sort Name token ≡ true → Rest (plain_rest go (named_by token)) ps tree → Spelled go tree token ps
plain_back go tree token ps h r =
    let then_proto = λ (ty : TypeName) (n : Named). proto_rest go (Plain ty) n in
    let w = whole_of (λ f l n qs. Rest (declared then_proto f l n) qs tree) (named_by token) ps r in
    let d = declared_back then_proto tree w.front w.last w.count (name Name (named_by token) ∷ ps) w.behind w.all w.rest in
    let p = proto_back go (Plain d.ty) d.value tree d.behind d.rest in
    record {
      piece = name Name (named_by token);
      statement = Proto (Plain d.ty) d.value p.params;
      behind = p.behind;
      is = has_sort-is Name token h;
      all = d.all ∙ ap (λ v. type_pieces d.ty ++ name Name d.value ∷ v) p.all ∙ proto_all (Plain d.ty) d.value p.params p.behind;
      is_statement = (d.is_type, p.full, p.types);
      rest = p.rest;
    }

returned_back : (go : Statement → State) (tree : Tree) (token : Lexeme) (ps : List Piece) (what : Piece) (make : TypeName → Named → Ret)
    → ((ty : TypeName) (field : Named) → ret_pieces (make ty field) ≡ returned_pieces what ty field)
    → ((ty : TypeName) (field : Named) → IsType ty → IsRet (make ty field))
    → fits what token ≡ true → Rest (returned_rest go make) ps tree → Spelled go tree token ps
returned_back go tree token ps what make pieces is_ret h r =
    let first = r.rest in
    let w = whole_of (λ f l n qs. Rest (returned_after go make f l n) qs tree) first.value first.behind first.rest in
    let ty = type_of w.front w.last w.count in
    let sep = w.rest in let field = sep.rest in let close = field.rest in let n = close.rest in
    let p = proto_back go (make ty field.value) n.value tree n.behind n.rest in
    let tail = name Name n.value ∷ open_bracket ∷ (params_pieces p.params ++ close_bracket ∷ semicolon ∷ p.behind) in
    record {
      piece = what;
      statement = Proto (make ty field.value) n.value p.params;
      behind = p.behind;
      is = fits-is what token h;
      all = ap (λ v. what ∷ v) (r.all ∙ ap (λ v. open_bracket ∷ v) (first.all ∙ w.all ∙ ap (λ v. type_pieces ty ++ v)
          (sep.all ∙ ap (λ v. comma ∷ v) (field.all ∙ ap (λ v. name Name field.value ∷ v) (close.all ∙ ap (λ v. close_bracket ∷ v) (n.all ∙ ap (λ v. name Name n.value ∷ v) p.all))))
          ∙ sym (append_assoc (type_pieces ty) (comma ∷ name Name field.value ∷ close_bracket ∷ []) tail)))
          ∙ ap (λ v. v ++ tail) (sym (pieces ty field.value))
          ∙ proto_all (make ty field.value) n.value p.params p.behind;
      is_statement = (is_ret ty field.value (full w.front w.last), p.full, p.types);
      rest = p.rest;
    }
  where
    full : (front : List Named) (last : Named) → front ++ last ∷ [] ≢ []
    full [] last e = cc
    full (x ∷ xs) last e = cc

-- ---- statements of a text of version 3

external_back : (go : Statement → State) (tree : Tree) (token : Lexeme) (ps : List Piece) → fits (kept (codes "sm_external")) token ≡ true → Rest (external_rest go) ps tree
    → Spelled go tree token ps
external_back go tree token ps h r =
    let fun = r.rest in let close = fun.rest in let end = close.rest in
    record {
      piece = kept (codes "sm_external");
      statement = External fun.value;
      behind = end.behind;
      is = fits-is (kept (codes "sm_external")) token h;
      all = ap (λ v. kept (codes "sm_external") ∷ v) (r.all ∙ ap (λ v. open_bracket ∷ v) (fun.all ∙ ap (λ v. name Name fun.value ∷ v) (close.all ∙ ap (λ v. close_bracket ∷ v) end.all)));
      is_statement = tt;
      rest = end.rest;
    }

most_back : (go : Statement → State) (tree : Tree) (token : Lexeme) (ps : List Piece) → fits (kept (codes "desc_data_most")) token ≡ true → Rest (most_rest go) ps tree
    → Spelled go tree token ps
most_back go tree token ps h r =
    let field = r.rest in let sep = field.rest in let most = sep.rest in let close = most.rest in let end = close.rest in
    record {
      piece = kept (codes "desc_data_most");
      statement = Most field.value most.value;
      behind = end.behind;
      is = fits-is (kept (codes "desc_data_most")) token h;
      all = ap (λ v. kept (codes "desc_data_most") ∷ v) (r.all ∙ ap (λ v. open_bracket ∷ v) (field.all ∙ ap (λ v. name Name field.value ∷ v)
          (sep.all ∙ ap (λ v. comma ∷ v) (most.all ∙ ap (λ v. number most.value ∷ v) (close.all ∙ ap (λ v. close_bracket ∷ v) end.all)))));
      is_statement = tt;
      rest = end.rest;
    }

unique_back : (go : Statement → State) (tree : Tree) (token : Lexeme) (ps : List Piece) → fits (kept (codes "desc_data_unique")) token ≡ true → Rest (unique_rest go) ps tree
    → Spelled go tree token ps
unique_back go tree token ps h r =
    let first = r.rest in let fields = first.rest in let end = fields.rest in
    record {
      piece = kept (codes "desc_data_unique");
      statement = Unique (first.value ∷ fields.more);
      behind = end.behind;
      is = fits-is (kept (codes "desc_data_unique")) token h;
      all = ap (λ v. kept (codes "desc_data_unique") ∷ v) (r.all ∙ ap (λ v. open_bracket ∷ v) (first.all ∙ ap (λ v. name Name first.value ∷ v)
          (fields.all ∙ ap (λ v. more_fields fields.more ++ close_bracket ∷ v) end.all)
          ∙ sym (append_assoc (name Name first.value ∷ more_fields fields.more) (close_bracket ∷ semicolon ∷ []) end.behind)));
      is_statement = λ e. cc;
      rest = end.rest;
    }

answer_back : (go : Statement → State) (tree : Tree) (token : Lexeme) (ps : List Piece) → fits (kept (codes "sm_answer")) token ≡ true → Rest (answer_rest go) ps tree
    → Spelled go tree token ps
answer_back go tree token ps h r =
    let fun = r.rest in let close = fun.rest in let open_rules = close.rest in let a = open_rules.rest in
    let is = rules_ended a.pieces a.end a.rules a.goes a.ends in
    record {
      piece = kept (codes "sm_answer");
      statement = Answer fun.value a.rules;
      behind = a.behind;
      is = fits-is (kept (codes "sm_answer")) token h;
      all = ap (λ v. kept (codes "sm_answer") ∷ v) (r.all ∙ ap (λ v. open_bracket ∷ v) (fun.all ∙ ap (λ v. name Name fun.value ∷ v) (close.all ∙ ap (λ v. close_bracket ∷ v)
          (open_rules.all ∙ ap (λ v. open_brace ∷ v) (a.all ∙ ap (λ v. map rule v ++ close_brace ∷ a.behind) is.0
          ∙ sym (append_assoc (map rule (flat_map rule_pieces a.rules)) (close_brace ∷ []) a.behind))))));
      is_statement = (is.1, is.2);
      rest = a.rest;
    }

-- a word that a version keeps for itself, or else another statement
kept_back : (go : Statement → State) (tree : Tree) (token : Lexeme) (next : State) (ps : List Piece) (other : Option State)
    → kept_after go token other ≡ Some next → Rest next ps tree → (other ≡ Some next → Spelled go tree token ps) → Spelled go tree token ps
kept_back go tree token next ps other e r others =
    by_test (fits (kept (codes "desc_data_retval_sub")) token)
    (λ h. returned_back go tree token ps (kept (codes "desc_data_retval_sub")) Sub (λ ty field. refl) (λ ty field t. t) h
    (along (returned_rest go Sub) (sym (if_then (fits (kept (codes "desc_data_retval_sub")) token) _ _ h) ∙ e)))
    (λ h1. let e1 = sym (if_else (fits (kept (codes "desc_data_retval_sub")) token) _ _ h1) ∙ e in
    by_test (fits (kept (codes "sm_external")) token)
    (λ h. external_back go tree token ps h (along (external_rest go) (sym (if_then (fits (kept (codes "sm_external")) token) _ _ h) ∙ e1)))
    (λ h2. let e2 = sym (if_else (fits (kept (codes "sm_external")) token) _ _ h2) ∙ e1 in
    by_test (fits (kept (codes "desc_data_most")) token)
    (λ h. most_back go tree token ps h (along (most_rest go) (sym (if_then (fits (kept (codes "desc_data_most")) token) _ _ h) ∙ e2)))
    (λ h3. let e3 = sym (if_else (fits (kept (codes "desc_data_most")) token) _ _ h3) ∙ e2 in
    by_test (fits (kept (codes "desc_data_unique")) token)
    (λ h. unique_back go tree token ps h (along (unique_rest go) (sym (if_then (fits (kept (codes "desc_data_unique")) token) _ _ h) ∙ e3)))
    (λ h4. let e4 = sym (if_else (fits (kept (codes "desc_data_unique")) token) _ _ h4) ∙ e3 in
    by_test (fits (kept (codes "sm_answer")) token)
    (λ h. answer_back go tree token ps h (along (answer_rest go) (sym (if_then (fits (kept (codes "sm_answer")) token) _ _ h) ∙ e4)))
    (λ h5. others (sym (if_else (fits (kept (codes "sm_answer")) token) _ _ h5) ∙ e4))))))
  where
    along : (s : State) → Some s ≡ Some next → Rest s ps tree
    along s g = subst (λ v. Rest v ps tree) (sym (some_is s next g)) r

pub statement_back : (go : Statement → State) (tree : Tree) (token : Lexeme) (next : State) (ps : List Piece)
    → statement_after go token ≡ Some next → Rest next ps tree → Spelled go tree token ps
statement_back go tree token next ps e r =
    by_test (has_sort one_word token)
    (λ h. one_back go tree token ps h (along (one_rest go (named_by token)) (sym (if_then (has_sort one_word token) _ _ h) ∙ e)))
    (λ h1. let e1 = sym (if_else (has_sort one_word token) _ _ h1) ∙ e in
    by_test (has_sort two_word token)
    (λ h. two_back go tree token ps h (along (two_rest go (named_by token)) (sym (if_then (has_sort two_word token) _ _ h) ∙ e1)))
    (λ h2. let e2 = sym (if_else (has_sort two_word token) _ _ h2) ∙ e1 in
    by_test (fits (word (codes "desc_data_retval")) token)
    (λ h. returned_back go tree token ps (word (codes "desc_data_retval")) Set (λ ty field. refl) (λ ty field t. t) h
    (along (returned_rest go Set) (sym (if_then (fits (word (codes "desc_data_retval")) token) _ _ h) ∙ e2)))
    (λ h3. let e3 = sym (if_else (fits (word (codes "desc_data_retval")) token) _ _ h3) ∙ e2 in
    by_test (fits (word (codes "desc_data_retval_add")) token)
    (λ h. returned_back go tree token ps (word (codes "desc_data_retval_add")) Add (λ ty field. refl) (λ ty field t. t) h
    (along (returned_rest go Add) (sym (if_then (fits (word (codes "desc_data_retval_add")) token) _ _ h) ∙ e3)))
    (λ h4. let e4 = sym (if_else (fits (word (codes "desc_data_retval_add")) token) _ _ h4) ∙ e3 in
    kept_back go tree token next ps (if has_sort Name token then Some (plain_rest go (named_by token)) else None) e4 r
    (λ e5.
    by_test (has_sort Name token)
    (λ h. plain_back go tree token ps h (along (plain_rest go (named_by token)) (sym (if_then (has_sort Name token) _ _ h) ∙ e5)))
    (λ h6. none_is (Spelled go tree token ps) next (if has_sort Name token then Some (plain_rest go (named_by token)) else None)
    (if_else (has_sort Name token) (Some (plain_rest go (named_by token))) None h6) e5))))))
  where
    along : (s : State) → Some s ≡ Some next → Rest s ps tree
    along s g = subst (λ v. Rest v ps tree) (sym (some_is s next g)) r

-- ---- from the pieces of a statement to the state after its first token

-- the token may come, and these pieces go on from there
pub record Follows (at : Option State) (ps : List Piece) (tree : Tree) : Type 0 where
  pub next : State
  pub is : at ≡ Some next
  pub rest : Rest next ps tree

one_forth : (go : Statement → State) (tree : Tree) (token : Lexeme) (w fun : Named) (qs : List Piece)
    → IsPiece token (name one_word w) → Rest (go (One w fun)) qs tree
    → Follows (statement_after go token) (open_bracket ∷ name Name fun ∷ close_bracket ∷ semicolon ∷ qs) tree
one_forth go tree token w fun qs is r = record {
  next = one_rest go (named_by token);
  is = if_then (has_sort one_word token) _ _ (is-has_sort one_word token w is);
  rest = subst (λ v. Rest (one_rest go v) (open_bracket ∷ name Name fun ∷ close_bracket ∷ semicolon ∷ qs) tree) (sym (named one_word token w is))
      (record {
        behind = name Name fun ∷ close_bracket ∷ semicolon ∷ qs;
        all = refl;
        rest = record {
          value = fun;
          behind = close_bracket ∷ semicolon ∷ qs;
          all = refl;
          rest = record {
            behind = semicolon ∷ qs;
            all = refl;
            rest = record { behind = qs; all = refl; rest = r };
          };
        };
      });
}

two_forth : (go : Statement → State) (tree : Tree) (token : Lexeme) (w first second : Named) (qs : List Piece)
    → IsPiece token (name two_word w) → Rest (go (Two w first second)) qs tree
    → Follows (statement_after go token) (open_bracket ∷ name Name first ∷ comma ∷ name Name second ∷ close_bracket ∷ semicolon ∷ qs) tree
two_forth go tree token w first second qs is r = record {
  next = two_rest go (named_by token);
  is = if_else (has_sort one_word token) _ _ (sort-has_sort two_word one_word token w is (apart two_words one_words w.bytes refl is.3))
      ∙ if_then (has_sort two_word token) _ _ (is-has_sort two_word token w is);
  rest = subst (λ v. Rest (two_rest go v) (open_bracket ∷ name Name first ∷ comma ∷ name Name second ∷ close_bracket ∷ semicolon ∷ qs) tree) (sym (named two_word token w is))
      (record {
        behind = name Name first ∷ comma ∷ name Name second ∷ close_bracket ∷ semicolon ∷ qs;
        all = refl;
        rest = record {
          value = first;
          behind = comma ∷ name Name second ∷ close_bracket ∷ semicolon ∷ qs;
          all = refl;
          rest = record {
            behind = name Name second ∷ close_bracket ∷ semicolon ∷ qs;
            all = refl;
            rest = record {
              value = second;
              behind = close_bracket ∷ semicolon ∷ qs;
              all = refl;
              rest = record {
                behind = semicolon ∷ qs;
                all = refl;
                rest = record { behind = qs; all = refl; rest = r };
              };
            };
          };
        };
      });
}

-- a word is none that a version keeps for itself
no_kept : (go : Statement → State) (token : Lexeme) (other : Option State) → token.kind ≡ Word → kept_after go token other ≡ other
no_kept go token other is =
    if_else (fits (kept (codes "desc_data_retval_sub")) token) _ _ (word-fits_kept (codes "desc_data_retval_sub") token is)
    ∙ if_else (fits (kept (codes "sm_external")) token) _ _ (word-fits_kept (codes "sm_external") token is)
    ∙ if_else (fits (kept (codes "desc_data_most")) token) _ _ (word-fits_kept (codes "desc_data_most") token is)
    ∙ if_else (fits (kept (codes "desc_data_unique")) token) _ _ (word-fits_kept (codes "desc_data_unique") token is)
    ∙ if_else (fits (kept (codes "sm_answer")) token) _ _ (word-fits_kept (codes "sm_answer") token is)

-- the first token of a plain return is none of the words before it
plain_is : (go : Statement → State) (token : Lexeme) (n : Named) → IsPiece token (name Name n) → statement_after go token ≡ Some (plain_rest go (named_by token))
plain_is go token n is =
    if_else (has_sort one_word token) _ _ (sort-has_sort Name one_word token n is (name_apart one_words n.bytes refl is.3))
    ∙ if_else (has_sort two_word token) _ _ (sort-has_sort Name two_word token n is (name_apart two_words n.bytes refl is.3))
    ∙ if_else (fits (word (codes "desc_data_retval")) token) _ _ (sort-fits_word Name (codes "desc_data_retval") token n is (name_apart (codes "desc_data_retval" ∷ []) n.bytes refl is.3))
    ∙ if_else (fits (word (codes "desc_data_retval_add")) token) _ _ (sort-fits_word Name (codes "desc_data_retval_add") token n is (name_apart (codes "desc_data_retval_add" ∷ []) n.bytes refl is.3))
    ∙ no_kept go token (if has_sort Name token then Some (plain_rest go (named_by token)) else None) is.0
    ∙ if_then (has_sort Name token) _ _ (is-has_sort Name token n is)

-- a type and a name, and then the rest of a prototype
typed_forth : (go : Statement → State) (tree : Tree) (ty : TypeName) (n : Named) (params : List Param) (qs : List Piece)
    → IsType ty → params ≢ [] → All (λ p. IsType p.ty) params → Rest (go (Proto (Plain ty) n params)) qs tree
    → Rest (want Name (λ first. plain_rest go first))
    (type_pieces ty ++ (name Name n ∷ open_bracket ∷ (params_pieces params ++ close_bracket ∷ semicolon ∷ qs))) tree
typed_forth go tree ty n params qs is_type full types r =
    let k = λ (ty : TypeName) (n : Named). proto_rest go (Plain ty) n in
    let tail : List Piece = open_bracket ∷ (params_pieces params ++ close_bracket ∷ semicolon ∷ qs) in
    type_forth (declared k) tree ty (name Name n ∷ tail) is_type
    (declared_forth k tree (λ f l c rs. Rest (declared k f l c) rs tree) (λ f l c rs off d. d) ty n tail is_type refl
    (proto_forth go (Plain ty) n tree params qs full types r))

plain_forth : (go : Statement → State) (tree : Tree) (token : Lexeme) (p : Piece) (ps : List Piece) (ty : TypeName) (n : Named) (params : List Param) (qs : List Piece)
    → IsPiece token p → p ∷ ps ≡ statement_pieces (Proto (Plain ty) n params) ++ qs
    → IsType ty → params ≢ [] → All (λ q. IsType q.ty) params → Rest (go (Proto (Plain ty) n params)) qs tree
    → Follows (statement_after go token) ps tree
plain_forth go tree token p ps ty n params qs is all is_type full types r =
    let w = typed_forth go tree ty n params qs is_type full types r in
    let e : p ∷ ps ≡ name Name w.value ∷ w.behind = all ∙ sym (proto_all (Plain ty) n params qs) ∙ w.all in
    let e0 : p ≡ name Name w.value = cc in
    let e1 : w.behind ≡ ps = cc in
    let is1 = subst (IsPiece token) e0 is in
    record {
      next = plain_rest go (named_by token);
      is = plain_is go token w.value is1;
      rest = subst (λ v. Rest (plain_rest go v) ps tree) (sym (named Name token w.value is1)) (subst (λ v. Rest (plain_rest go w.value) v tree) e1 w.rest);
    }

returned_forth : (go : Statement → State) (tree : Tree) (what : Piece) (make : TypeName → Named → Ret) (ty : TypeName) (field n : Named) (params : List Param) (qs : List Piece)
    → IsType ty → params ≢ [] → All (λ q. IsType q.ty) params → Rest (go (Proto (make ty field) n params)) qs tree
    → Rest (returned_rest go make) (open_bracket ∷ (type_pieces ty ++ (comma ∷ name Name field ∷ close_bracket ∷ name Name n ∷ open_bracket ∷ (params_pieces params ++ close_bracket ∷ semicolon ∷ qs)))) tree
returned_forth go tree what make ty field n params qs is_type full types r =
    let tail : List Piece = open_bracket ∷ (params_pieces params ++ close_bracket ∷ semicolon ∷ qs) in
    let behind : List Piece = comma ∷ name Name field ∷ close_bracket ∷ name Name n ∷ tail in
    let t = ends ty.names is_type in
    let same : ty ≡ type_of t.front t.last ty.stars = ap (λ v. record { names = v; stars = ty.stars }) t.all in
    let w : Whole (λ f l c rs. Rest (returned_after go make f l c) rs tree) (type_pieces ty ++ behind) = record {
      front = t.front;
      last = t.last;
      count = ty.stars;
      behind = behind;
      all = ap (λ v. type_pieces v ++ behind) same;
      off_star = closed-star behind refl;
      off_name = λ _. closed-sort Name behind refl;
      rest = record {
        behind = name Name field ∷ close_bracket ∷ name Name n ∷ tail;
        all = refl;
        rest = record {
          value = field;
          behind = close_bracket ∷ name Name n ∷ tail;
          all = refl;
          rest = record {
            behind = name Name n ∷ tail;
            all = refl;
            rest = record {
              value = n;
              behind = tail;
              all = refl;
              rest = subst (λ v. Rest (proto_rest go (make v field) n) tail tree) same (proto_forth go (make ty field) n tree params qs full types r);
            };
          };
        };
      };
    } in
    record { behind = type_pieces ty ++ behind; all = refl; rest = type_forth (returned_after go make) tree ty behind is_type w }

-- the pieces of a return that sets a field, with what follows them
returned_all : (what : Piece) (make : TypeName → Named → Ret) (ty : TypeName) (field n : Named) (params : List Param) (qs : List Piece)
    → ret_pieces (make ty field) ≡ returned_pieces what ty field
    → statement_pieces (Proto (make ty field) n params) ++ qs
    ≡ what ∷ open_bracket ∷ (type_pieces ty ++ (comma ∷ name Name field ∷ close_bracket ∷ name Name n ∷ open_bracket ∷ (params_pieces params ++ close_bracket ∷ semicolon ∷ qs)))
returned_all what make ty field n params qs pieces =
    let tail : List Piece = name Name n ∷ open_bracket ∷ (params_pieces params ++ close_bracket ∷ semicolon ∷ qs) in
    sym (proto_all (make ty field) n params qs) ∙ ap (λ v. v ++ tail) pieces
    ∙ ap (λ v. what ∷ open_bracket ∷ v) (append_assoc (type_pieces ty) (comma ∷ name Name field ∷ close_bracket ∷ []) tail)

-- the word of a return that sets a field is none of the words before it
retval_is : (go : Statement → State) (token : Lexeme) → IsPiece token (word (codes "desc_data_retval")) → statement_after go token ≡ Some (returned_rest go Set)
retval_is go token is =
    if_else (has_sort one_word token) _ _ (word-has_sort one_word (codes "desc_data_retval") token is refl)
    ∙ if_else (has_sort two_word token) _ _ (word-has_sort two_word (codes "desc_data_retval") token is refl)
    ∙ if_then (fits (word (codes "desc_data_retval")) token) _ _ (is-fits (word (codes "desc_data_retval")) token is)

retval_add_is : (go : Statement → State) (token : Lexeme) → IsPiece token (word (codes "desc_data_retval_add")) → statement_after go token ≡ Some (returned_rest go Add)
retval_add_is go token is =
    if_else (has_sort one_word token) _ _ (word-has_sort one_word (codes "desc_data_retval_add") token is refl)
    ∙ if_else (has_sort two_word token) _ _ (word-has_sort two_word (codes "desc_data_retval_add") token is refl)
    ∙ if_else (fits (word (codes "desc_data_retval")) token) _ _ (word-fits_word (codes "desc_data_retval_add") (codes "desc_data_retval") token is refl)
    ∙ if_then (fits (word (codes "desc_data_retval_add")) token) _ _ (is-fits (word (codes "desc_data_retval_add")) token is)

-- a word that a version keeps for itself is none of the words before it
kept_is : (go : Statement → State) (token : Lexeme) (next : State) → token.kind ≡ Mark
    → ((other : Option State) → kept_after go token other ≡ Some next) → statement_after go token ≡ Some next
kept_is go token next is h =
    if_else (has_sort one_word token) _ _ (mark-has_sort one_word token is)
    ∙ if_else (has_sort two_word token) _ _ (mark-has_sort two_word token is)
    ∙ if_else (fits (word (codes "desc_data_retval")) token) _ _ (mark-fits_word (codes "desc_data_retval") token is)
    ∙ if_else (fits (word (codes "desc_data_retval_add")) token) _ _ (mark-fits_word (codes "desc_data_retval_add") token is)
    ∙ h (if has_sort Name token then Some (plain_rest go (named_by token)) else None)

retval_sub_is : (go : Statement → State) (token : Lexeme) → IsPiece token (kept (codes "desc_data_retval_sub")) → statement_after go token ≡ Some (returned_rest go Sub)
retval_sub_is go token is =
    kept_is go token (returned_rest go Sub) is.0
    (λ other. if_then (fits (kept (codes "desc_data_retval_sub")) token) _ _ (is-fits (kept (codes "desc_data_retval_sub")) token is))

external_is : (go : Statement → State) (token : Lexeme) → IsPiece token (kept (codes "sm_external")) → statement_after go token ≡ Some (external_rest go)
external_is go token is =
    kept_is go token (external_rest go) is.0
    (λ other.
    if_else (fits (kept (codes "desc_data_retval_sub")) token) _ _ (kept-fits_kept (codes "sm_external") (codes "desc_data_retval_sub") token is refl)
    ∙ if_then (fits (kept (codes "sm_external")) token) _ _ (is-fits (kept (codes "sm_external")) token is))

most_is : (go : Statement → State) (token : Lexeme) → IsPiece token (kept (codes "desc_data_most")) → statement_after go token ≡ Some (most_rest go)
most_is go token is =
    kept_is go token (most_rest go) is.0
    (λ other.
    if_else (fits (kept (codes "desc_data_retval_sub")) token) _ _ (kept-fits_kept (codes "desc_data_most") (codes "desc_data_retval_sub") token is refl)
    ∙ if_else (fits (kept (codes "sm_external")) token) _ _ (kept-fits_kept (codes "desc_data_most") (codes "sm_external") token is refl)
    ∙ if_then (fits (kept (codes "desc_data_most")) token) _ _ (is-fits (kept (codes "desc_data_most")) token is))

unique_is : (go : Statement → State) (token : Lexeme) → IsPiece token (kept (codes "desc_data_unique")) → statement_after go token ≡ Some (unique_rest go)
unique_is go token is =
    kept_is go token (unique_rest go) is.0
    (λ other.
    if_else (fits (kept (codes "desc_data_retval_sub")) token) _ _ (kept-fits_kept (codes "desc_data_unique") (codes "desc_data_retval_sub") token is refl)
    ∙ if_else (fits (kept (codes "sm_external")) token) _ _ (kept-fits_kept (codes "desc_data_unique") (codes "sm_external") token is refl)
    ∙ if_else (fits (kept (codes "desc_data_most")) token) _ _ (kept-fits_kept (codes "desc_data_unique") (codes "desc_data_most") token is refl)
    ∙ if_then (fits (kept (codes "desc_data_unique")) token) _ _ (is-fits (kept (codes "desc_data_unique")) token is))

answer_is : (go : Statement → State) (token : Lexeme) → IsPiece token (kept (codes "sm_answer")) → statement_after go token ≡ Some (answer_rest go)
answer_is go token is =
    kept_is go token (answer_rest go) is.0
    (λ other.
    if_else (fits (kept (codes "desc_data_retval_sub")) token) _ _ (kept-fits_kept (codes "sm_answer") (codes "desc_data_retval_sub") token is refl)
    ∙ if_else (fits (kept (codes "sm_external")) token) _ _ (kept-fits_kept (codes "sm_answer") (codes "sm_external") token is refl)
    ∙ if_else (fits (kept (codes "desc_data_most")) token) _ _ (kept-fits_kept (codes "sm_answer") (codes "desc_data_most") token is refl)
    ∙ if_else (fits (kept (codes "desc_data_unique")) token) _ _ (kept-fits_kept (codes "sm_answer") (codes "desc_data_unique") token is refl)
    ∙ if_then (fits (kept (codes "sm_answer")) token) _ _ (is-fits (kept (codes "sm_answer")) token is))

-- a function in brackets, and what follows the bracket
fun_forth : (k : Named → State) (tree : Tree) (fun : Named) (qs : List Piece) → Rest (k fun) qs tree
    → Rest (due open_bracket (want Name (λ f. due close_bracket (k f)))) (open_bracket ∷ name Name fun ∷ close_bracket ∷ qs) tree
fun_forth k tree fun qs r = record {
  behind = name Name fun ∷ close_bracket ∷ qs;
  all = refl;
  rest = record {
    value = fun;
    behind = close_bracket ∷ qs;
    all = refl;
    rest = record { behind = qs; all = refl; rest = r };
  };
}

-- the words of version 3 lead to these states
record Kept (go : Statement → State) (tree : Tree) (token : Lexeme) (p : Piece) (ps : List Piece) : Type 0 where
  word_is : List ℕ
  next : State
  tail : List Piece
  first : p ≡ kept word_is
  others : tail ≡ ps
  goes : IsPiece token (kept word_is) → statement_after go token ≡ Some next
  rest : Rest next tail tree

kept_forth : (go : Statement → State) (tree : Tree) (token : Lexeme) (p : Piece) (ps : List Piece) → IsPiece token p
    → Kept go tree token p ps → Follows (statement_after go token) ps tree
kept_forth go tree token p ps is k = record {
  next = k.next;
  is = k.goes (subst (IsPiece token) k.first is);
  rest = subst (λ v. Rest k.next v tree) k.others k.rest;
}

pub statement_forth : (go : Statement → State) (tree : Tree) (token : Lexeme) (p : Piece) (ps : List Piece) (statement : Statement) (qs : List Piece)
    → IsPiece token p → p ∷ ps ≡ statement_pieces statement ++ qs → IsStatement statement → Rest (go statement) qs tree
    → Follows (statement_after go token) ps tree
statement_forth go tree token p ps (One w fun) qs is all s r =
    let e0 : p ≡ name one_word w = cc in
    let e1 : open_bracket ∷ name Name fun ∷ close_bracket ∷ semicolon ∷ qs ≡ ps = cc in
    subst (λ v. Follows (statement_after go token) v tree) e1 (one_forth go tree token w fun qs (subst (IsPiece token) e0 is) r)
statement_forth go tree token p ps (Two w first second) qs is all s r =
    let e0 : p ≡ name two_word w = cc in
    let e1 : open_bracket ∷ name Name first ∷ comma ∷ name Name second ∷ close_bracket ∷ semicolon ∷ qs ≡ ps = cc in
    subst (λ v. Follows (statement_after go token) v tree) e1 (two_forth go tree token w first second qs (subst (IsPiece token) e0 is) r)
statement_forth go tree token p ps (Proto (Plain ty) n params) qs is all s r =
    plain_forth go tree token p ps ty n params qs is all s.0 s.1 s.2 r
statement_forth go tree token p ps (Proto (Set ty field) n params) qs is all s r =
    let f = returned_forth go tree (word (codes "desc_data_retval")) Set ty field n params qs s.0 s.1 s.2 r in
    let e = all ∙ returned_all (word (codes "desc_data_retval")) Set ty field n params qs refl in
    let e0 : p ≡ word (codes "desc_data_retval") = head_is e in
    let e1 = tail_is e in
    record { next = returned_rest go Set; is = retval_is go token (subst (IsPiece token) e0 is); rest = subst (λ v. Rest (returned_rest go Set) v tree) (sym e1) f }
statement_forth go tree token p ps (Proto (Add ty field) n params) qs is all s r =
    let f = returned_forth go tree (word (codes "desc_data_retval_add")) Add ty field n params qs s.0 s.1 s.2 r in
    let e = all ∙ returned_all (word (codes "desc_data_retval_add")) Add ty field n params qs refl in
    let e0 : p ≡ word (codes "desc_data_retval_add") = head_is e in
    let e1 = tail_is e in
    record { next = returned_rest go Add; is = retval_add_is go token (subst (IsPiece token) e0 is); rest = subst (λ v. Rest (returned_rest go Add) v tree) (sym e1) f }
statement_forth go tree token p ps (Proto (Sub ty field) n params) qs is all s r =
    let f = returned_forth go tree (kept (codes "desc_data_retval_sub")) Sub ty field n params qs s.0 s.1 s.2 r in
    let e = all ∙ returned_all (kept (codes "desc_data_retval_sub")) Sub ty field n params qs refl in
    let e0 : p ≡ kept (codes "desc_data_retval_sub") = head_is e in
    let e1 = tail_is e in
    record { next = returned_rest go Sub; is = retval_sub_is go token (subst (IsPiece token) e0 is); rest = subst (λ v. Rest (returned_rest go Sub) v tree) (sym e1) f }
statement_forth go tree token p ps (External fun) qs is all s r =
    kept_forth go tree token p ps is (record {
      word_is = codes "sm_external";
      next = external_rest go;
      tail = open_bracket ∷ name Name fun ∷ close_bracket ∷ semicolon ∷ qs;
      first = head_is all;
      others = sym (tail_is all);
      goes = external_is go token;
      rest = fun_forth (λ f. due semicolon (go (External f))) tree fun (semicolon ∷ qs) (record { behind = qs; all = refl; rest = r });
    })
statement_forth go tree token p ps (Most field most) qs is all s r =
    kept_forth go tree token p ps is (record {
      word_is = codes "desc_data_most";
      next = most_rest go;
      tail = open_bracket ∷ name Name field ∷ comma ∷ number most ∷ close_bracket ∷ semicolon ∷ qs;
      first = head_is all;
      others = sym (tail_is all);
      goes = most_is go token;
      rest = record {
        behind = name Name field ∷ comma ∷ number most ∷ close_bracket ∷ semicolon ∷ qs;
        all = refl;
        rest = record {
          value = field;
          behind = comma ∷ number most ∷ close_bracket ∷ semicolon ∷ qs;
          all = refl;
          rest = record {
            behind = number most ∷ close_bracket ∷ semicolon ∷ qs;
            all = refl;
            rest = record {
              value = most;
              behind = close_bracket ∷ semicolon ∷ qs;
              all = refl;
              rest = record {
                behind = semicolon ∷ qs;
                all = refl;
                rest = record { behind = qs; all = refl; rest = r };
              };
            };
          };
        };
      };
    })
statement_forth go tree token p ps (Unique []) qs is all s r = absurd (s refl)
statement_forth go tree token p ps (Unique (first ∷ more)) qs is all s r =
    kept_forth go tree token p ps is (record {
      word_is = codes "desc_data_unique";
      next = unique_rest go;
      tail = open_bracket ∷ ((name Name first ∷ more_fields more ++ close_bracket ∷ semicolon ∷ []) ++ qs);
      first = head_is all;
      others = sym (tail_is all);
      goes = unique_is go token;
      rest = record {
        behind = (name Name first ∷ more_fields more ++ close_bracket ∷ semicolon ∷ []) ++ qs;
        all = refl;
        rest = record {
          value = first;
          behind = more_fields more ++ close_bracket ∷ semicolon ∷ qs;
          all = append_assoc (name Name first ∷ more_fields more) (close_bracket ∷ semicolon ∷ []) qs;
          rest = record {
            more = more;
            behind = semicolon ∷ qs;
            all = refl;
            rest = record { behind = qs; all = refl; rest = r };
          };
        };
      };
    })
statement_forth go tree token p ps (Answer fun rules) qs is all s r =
    let closed : List Piece = map rule (flat_map rule_pieces rules) ++ close_brace ∷ [] in
    kept_forth go tree token p ps is (record {
      word_is = codes "sm_answer";
      next = answer_rest go;
      tail = open_bracket ∷ name Name fun ∷ close_bracket ∷ open_brace ∷ (closed ++ qs);
      first = head_is all;
      others = sym (tail_is all);
      goes = answer_is go token;
      rest = fun_forth (λ f. due open_brace (answering (ruled []) (λ rules. go (Answer f rules)))) tree fun (open_brace ∷ (closed ++ qs)) (record {
        behind = closed ++ qs;
        all = refl;
        rest = record {
          pieces = flat_map rule_pieces rules;
          end = ruled rules;
          rules = rules;
          behind = qs;
          all = append_assoc (map rule (flat_map rule_pieces rules)) (close_brace ∷ []) qs;
          goes = pieces_go rules s.1;
          ends = rules_at_end rules s.0;
          rest = r;
        };
      });
    })
