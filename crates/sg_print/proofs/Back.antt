-- Tokens that are like the pieces of a tree are the pieces of a tree that is equal but for places.
use Rattle.std.proofs.Common.{ℕ, zero, suc, ◌≡◌, ◌≢◌, Bool, true, List, [], ◌∷◌, ◌++◌, Option, None, Some, map, replicate, codes, length, refl, sym, ap, ◌∙◌, subst, arith, append_assoc, inl, inr}
use Rattle.std.specs.Prelude.{All}
use Rattle.std.specs.List.{flat_map}
use Rattle.std.specs.Option.{option_map}
use Rattle.std.proofs.lemmas.List.Elements.{All-head, All-tail, All-cons}
use Rattle.sg_parse.specs.sg_lex.Lexeme.{Lexeme, Spelling as Named}
use Rattle.sg_parse.specs.declared.tree.Facts.{Facts}
use Rattle.sg_parse.specs.declared.tree.Statement.{Statement}
use Rattle.sg_parse.specs.declared.tree.Statement.TheVariants.{One, Two, Proto, External, Most, Unique, Answer}
use Rattle.sg_parse.specs.declared.tree.Ret.{Ret}
use Rattle.sg_parse.specs.declared.tree.Ret.TheVariants.{Plain, Set, Add, Sub}
use Rattle.sg_parse.specs.declared.tree.TypeName.{TypeName}
use Rattle.sg_parse.specs.declared.tree.Param.{Param}
use Rattle.sg_parse.specs.declared.tree.Tree.{Tree}
use Rattle.sg_parse.specs.declared.words.Sort.{Sort}
use Rattle.sg_parse.specs.declared.words.Sort.TheVariants.{Name, One as one_word, Two as two_word, Form, Parents, Closing, Flag}
use Rattle.sg_parse.specs.Grammar.Words.{is_of}
use Rattle.sg_parse.specs.sg_rules.declared.version.Newer.{Newer}
use Rattle.sg_parse.specs.sg_rules.declared.version.Newer.TheVariants.{Second, Third}
use Rattle.sg_parse.specs.sg_rules.declared.tree.Rule.{Rule}
use Rattle.sg_parse.specs.sg_rules.Versions.{seen}
use Rattle.sg_parse.specs.sg_rules.Grammar.Pieces.{RulePiece, IsRulePiece}
use Rattle.sg_parse.specs.sg_rules.Grammar.Sentence.{rule_pieces, IsRule}
use Rattle.sg_parse.specs.sg_rules.Grammar.Plain.{plain_name, plain_rule}
use Rattle.sg_parse.specs.Grammar.Pieces.{Piece, word, mark, name, number, version_number, kept, newer, rule, IsPiece}
use Rattle.sg_parse.specs.sg_lex.Sentences.{ArePieces, separated}
use Rattle.sg_parse.specs.Grammar.Sentence.{recovery_word, type_pieces, param_pieces, ret_pieces, statement_pieces, tree_pieces, IsStatement}
use Rattle.sg_parse.specs.Grammar.Inside.Forms.{open_brace, close_brace, equals, open_bracket, close_bracket, comma, semicolon, star, fact_pieces, last_pieces, form_pieces, more_fields, more_params, params_pieces, returned_pieces, IsType, IsRet, IsHead, IsWellFormed}
use Rattle.sg_parse.specs.Grammar.Plain.{plain_type, plain_param, plain_ret, plain_statement, plain_facts, plain}
use Rattle.sg_print.proofs.Heads.{shared_pieces, recovery_pieces, end_by, after_brace}
use Rattle.sg_print.proofs.Levels.{Version, v1, v2, v3}
use Rattle.sg_print.proofs.Leads.{AreLike, IsLike}
use Rattle.sg_print.proofs.RuleBack.{AreRuleLike, AgainRules, rules_back}

-- tokens begin with what is like the pieces of a part: they begin with the pieces of an equal part, but for places
record Again {X : Type 0} (pieces_of : X → List Piece) (plain_of : X → X) (Good : X → Type 0) (x : X) (tokens : List Lexeme) (more : List Piece) : Type 0 where
  again : X
  behind : List Lexeme
  left : AreLike behind more
  back : (ps : List Piece) → ArePieces IsPiece behind ps → ArePieces IsPiece tokens (pieces_of again ++ ps)
  same : plain_of again ≡ plain_of x
  kept : Good x → Good again

-- a part without names reads back as the part itself
record Past (fixed : List Piece) (tokens : List Lexeme) (more : List Piece) : Type 0 where
  behind : List Lexeme
  left : AreLike behind more
  back : (ps : List Piece) → ArePieces IsPiece behind ps → ArePieces IsPiece tokens (fixed ++ ps)

abbrev Any : {X : Type 0} → X → Type 0
Any x = Unit {0}

-- a piece without a name
fixed_back : (p : Piece) → ((token : Lexeme) → IsLike token p → IsPiece token p) → (more : List Piece) (tokens : List Lexeme) → AreLike tokens (p ∷ more)
    → Past (p ∷ []) tokens more
fixed_back p is more [] l = absurd l
fixed_back p is more (t ∷ ts) l = record { behind = ts; left = l.1; back = λ ps h. (is t l.0, h) }

word_back : (w : List ℕ) (more : List Piece) (tokens : List Lexeme) → AreLike tokens (word w ∷ more) → Past (word w ∷ []) tokens more
word_back w more tokens l = fixed_back (word w) (λ token h. h) more tokens l

mark_back : (m : ℕ) (more : List Piece) (tokens : List Lexeme) → AreLike tokens (mark (m ∷ []) ∷ more) → Past (mark (m ∷ []) ∷ []) tokens more
mark_back m more tokens l = fixed_back (mark (m ∷ [])) (λ token h. h) more tokens l

kept_back : (w : List ℕ) (more : List Piece) (tokens : List Lexeme) → AreLike tokens (kept w ∷ more) → Past (kept w ∷ []) tokens more
kept_back w more tokens l = fixed_back (kept w) (λ token h. h) more tokens l

stars_back : (k : ℕ) (more : List Piece) (tokens : List Lexeme) → AreLike tokens (replicate k star ++ more) → Past (replicate k star) tokens more
stars_back zero more tokens l = record { behind = tokens; left = l; back = λ ps h. h }
stars_back (suc k) more tokens l =
    let r = mark_back 0x2A (replicate k star ++ more) tokens l in
    let s = stars_back k more r.behind r.left in
    record { behind = s.behind; left = s.left; back = λ ps h. r.back (replicate k star ++ ps) (s.back ps h) }

name_back : (sort : Sort) (n : Named) (more : List Piece) (tokens : List Lexeme) → AreLike tokens (name sort n ∷ more)
    → Again (λ m. name sort m ∷ []) plain_name Any n tokens more
name_back sort n more [] l = absurd l
name_back sort n more (t ∷ ts) l = record {
  again = record { bytes = t.bytes; at = t.at };
  behind = ts;
  left = l.1;
  back = λ ps h. ((l.0.0, refl, refl, subst (λ b. is_of sort b ≡ true) (sym l.0.1) l.0.2), h);
  same = ap (λ (b : List ℕ). plain_name (record { bytes = b; at = 0 })) l.0.1;
  kept = λ h. h;
}

number_back : (n : Named) (more : List Piece) (tokens : List Lexeme) → AreLike tokens (number n ∷ more)
    → Again (λ m. number m ∷ []) plain_name Any n tokens more
number_back n more [] l = absurd l
number_back n more (t ∷ ts) l = record {
  again = record { bytes = t.bytes; at = t.at };
  behind = ts;
  left = l.1;
  back = λ ps h. ((l.0.0, refl, refl), h);
  same = ap (λ (b : List ℕ). plain_name (record { bytes = b; at = 0 })) l.0.1;
  kept = λ h. h;
}

-- ---- types

abbrev Some_of : {X : Type 0} → List X → Type 0
Some_of xs = xs ≢ []

occupied : {X : Type 0} (x : X) (xs : List X) → x ∷ xs ≢ []
occupied x xs e = let long : suc (length xs) ≡ 0 = ap length e in omega arith

names_back : (ns : List Named) (more : List Piece) (tokens : List Lexeme) → AreLike tokens (map (name Name) ns ++ more)
    → Again (map (name Name)) (map plain_name) Some_of ns tokens more
names_back [] more tokens l = record { again = []; behind = tokens; left = l; back = λ ps h. h; same = refl; kept = λ h. h }
names_back (n ∷ ns) more tokens l =
    let r = name_back Name n (map (name Name) ns ++ more) tokens l in
    let s = names_back ns more r.behind r.left in
    record {
      again = r.again ∷ s.again;
      behind = s.behind;
      left = s.left;
      back = λ ps h. r.back (map (name Name) s.again ++ ps) (s.back ps h);
      same = ap (λ m. m ∷ map plain_name s.again) r.same ∙ ap (λ ms. plain_name n ∷ ms) s.same;
      kept = λ h. occupied r.again s.again;
    }

type_back : (ty : TypeName) (more : List Piece) (tokens : List Lexeme) → AreLike tokens (type_pieces ty ++ more)
    → Again type_pieces plain_type IsType ty tokens more
type_back ty more tokens l =
    let stars : List Piece = replicate ty.stars star in
    let r = names_back ty.names (stars ++ more) tokens (subst (AreLike tokens) (append_assoc (map (name Name) ty.names) stars more) l) in
    let s = stars_back ty.stars more r.behind r.left in
    record {
      again = record { names = r.again; stars = ty.stars };
      behind = s.behind;
      left = s.left;
      back = λ ps h. subst (ArePieces IsPiece tokens) (sym (append_assoc (map (name Name) r.again) stars ps)) (r.back (stars ++ ps) (s.back ps h));
      same = ap (λ (ns : List Named). record { names = ns; stars = ty.stars }) r.same;
      kept = r.kept;
    }

-- ---- parameters

abbrev pair_pieces : Option Named × Named → List Piece
pair_pieces f = form_pieces f.0 f.1

abbrev plain_pair : Option Named × Named → Option Named × Named
plain_pair f = (option_map plain_name f.0, plain_name f.1)

form_back : (form : Option Named) (n : Named) (more : List Piece) (tokens : List Lexeme) → AreLike tokens (form_pieces form n ++ more)
    → Again pair_pieces plain_pair Any (form, n) tokens more
form_back None n more tokens l =
    let r = name_back Name n more tokens l in
    record {
      again = (None, r.again);
      behind = r.behind;
      left = r.left;
      back = r.back;
      same = ap (λ (m : Named). let p : Option Named × Named = (None, m) in p) r.same;
      kept = λ h. h;
    }
form_back (Some form) n more tokens l =
    let r = name_back Form form (open_bracket ∷ name Name n ∷ close_bracket ∷ more) tokens l in
    let o = mark_back 0x28 (name Name n ∷ close_bracket ∷ more) r.behind r.left in
    let s = name_back Name n (close_bracket ∷ more) o.behind o.left in
    let c = mark_back 0x29 more s.behind s.left in
    record {
      again = (Some r.again, s.again);
      behind = c.behind;
      left = c.left;
      back = λ ps h. r.back (open_bracket ∷ name Name s.again ∷ close_bracket ∷ ps) (o.back (name Name s.again ∷ close_bracket ∷ ps)
          (s.back (close_bracket ∷ ps) (c.back ps h)));
      same = ap (λ (m : Named). let p : Option Named × Named = (Some m, plain_name s.again) in p) r.same
          ∙ ap (λ (m : Named). let p : Option Named × Named = (Some (plain_name form), m) in p) s.same;
      kept = λ h. h;
    }

abbrev HasType : Param → Type 0
HasType p = IsType p.ty

param_back : (p : Param) (more : List Piece) (tokens : List Lexeme) → AreLike tokens (param_pieces p ++ more)
    → Again param_pieces plain_param HasType p tokens more
param_back p more tokens l =
    let form : List Piece = form_pieces p.form p.name in
    let r = type_back p.ty (form ++ more) tokens (subst (AreLike tokens) (append_assoc (type_pieces p.ty) form more) l) in
    let s = form_back p.form p.name more r.behind r.left in
    record {
      again = record { ty = r.again; form = s.again.0; name = s.again.1 };
      behind = s.behind;
      left = s.left;
      back = λ ps h. subst (ArePieces IsPiece tokens) (sym (append_assoc (type_pieces r.again) (pair_pieces s.again) ps))
          (r.back (pair_pieces s.again ++ ps) (s.back ps h));
      same = ap (λ (ty : TypeName). let q : Param = record { ty = ty; form = option_map plain_name s.again.0; name = plain_name s.again.1 } in q) r.same
          ∙ ap (λ (f : Option Named × Named). let q : Param = record { ty = plain_type p.ty; form = f.0; name = f.1 } in q) s.same;
      kept = r.kept;
    }

more_back : (params : List Param) (more : List Piece) (tokens : List Lexeme) → AreLike tokens (more_params params ++ more)
    → Again more_params (map plain_param) (All HasType) params tokens more
more_back [] more tokens l = record { again = []; behind = tokens; left = l; back = λ ps h. h; same = refl; kept = λ h. h }
more_back (p ∷ params) more tokens l =
    let o = mark_back 0x2C (param_pieces p ++ (more_params params ++ more)) tokens
    (subst (AreLike tokens) (append_assoc (comma ∷ param_pieces p) (more_params params) more) l) in
    let r = param_back p (more_params params ++ more) o.behind o.left in
    let s = more_back params more r.behind r.left in
    record {
      again = r.again ∷ s.again;
      behind = s.behind;
      left = s.left;
      back = λ ps h. subst (ArePieces IsPiece tokens) (sym (append_assoc (comma ∷ param_pieces r.again) (more_params s.again) ps))
          (o.back (param_pieces r.again ++ (more_params s.again ++ ps)) (r.back (more_params s.again ++ ps) (s.back ps h)));
      same = ap (λ q. q ∷ map plain_param s.again) r.same ∙ ap (λ qs. plain_param p ∷ qs) s.same;
      kept = λ h. All-cons HasType r.again s.again (r.kept (All-head HasType p params h)) (s.kept (All-tail HasType p params h));
    }

abbrev AreParams : List Param → Type 0
AreParams params = (params ≢ []) × All HasType params

params_back : (params : List Param) (more : List Piece) (tokens : List Lexeme) → AreLike tokens (params_pieces params ++ more)
    → Again params_pieces (map plain_param) AreParams params tokens more
params_back [] more tokens l = record { again = []; behind = tokens; left = l; back = λ ps h. h; same = refl; kept = λ h. h }
params_back (p ∷ params) more tokens l =
    let r = param_back p (more_params params ++ more) tokens (subst (AreLike tokens) (append_assoc (param_pieces p) (more_params params) more) l) in
    let s = more_back params more r.behind r.left in
    record {
      again = r.again ∷ s.again;
      behind = s.behind;
      left = s.left;
      back = λ ps h. subst (ArePieces IsPiece tokens) (sym (append_assoc (param_pieces r.again) (more_params s.again) ps))
          (r.back (more_params s.again ++ ps) (s.back ps h));
      same = ap (λ q. q ∷ map plain_param s.again) r.same ∙ ap (λ qs. plain_param p ∷ qs) s.same;
      kept = λ h. (
        occupied r.again s.again,
        All-cons HasType r.again s.again (r.kept (All-head HasType p params h.1)) (s.kept (All-tail HasType p params h.1)),
      );
    }

-- ---- returns

abbrev Returned : Type 0
Returned = TypeName × Named

abbrev pair_of : Piece → Returned → List Piece
pair_of what f = returned_pieces what f.0 f.1

abbrev plain_returned : Returned → Returned
plain_returned f = (plain_type f.0, plain_name f.1)

abbrev ReturnsType : Returned → Type 0
ReturnsType f = IsType f.0

returned_back : (what : Piece) → ((token : Lexeme) → IsLike token what → IsPiece token what) → (ty : TypeName) (field : Named) (more : List Piece) (tokens : List Lexeme)
    → AreLike tokens (returned_pieces what ty field ++ more) → Again (pair_of what) plain_returned ReturnsType (ty, field) tokens more
returned_back what is ty field more tokens l =
    let last : List Piece = comma ∷ name Name field ∷ close_bracket ∷ [] in
    let w = fixed_back what is (open_bracket ∷ (type_pieces ty ++ (last ++ more))) tokens
    (subst (λ xs. AreLike tokens (what ∷ open_bracket ∷ xs)) (append_assoc (type_pieces ty) last more) l) in
    let o = mark_back 0x28 (type_pieces ty ++ (last ++ more)) w.behind w.left in
    let r = type_back ty (last ++ more) o.behind o.left in
    let d = mark_back 0x2C (name Name field ∷ close_bracket ∷ more) r.behind r.left in
    let s = name_back Name field (close_bracket ∷ more) d.behind d.left in
    let c = mark_back 0x29 more s.behind s.left in
    record {
      again = (r.again, s.again);
      behind = c.behind;
      left = c.left;
      back = λ ps h.
          let tail : ArePieces IsPiece r.behind (comma ∷ name Name s.again ∷ close_bracket ∷ ps)
          = d.back (name Name s.again ∷ close_bracket ∷ ps) (s.back (close_bracket ∷ ps) (c.back ps h)) in
          subst (λ xs. ArePieces IsPiece tokens (what ∷ open_bracket ∷ xs))
          (sym (append_assoc (type_pieces r.again) (comma ∷ name Name s.again ∷ close_bracket ∷ []) ps))
          (w.back (open_bracket ∷ (type_pieces r.again ++ (comma ∷ name Name s.again ∷ close_bracket ∷ ps)))
          (o.back (type_pieces r.again ++ (comma ∷ name Name s.again ∷ close_bracket ∷ ps))
          (r.back (comma ∷ name Name s.again ∷ close_bracket ∷ ps) tail)));
      same = ap (λ (t : TypeName). let f : Returned = (t, plain_name s.again) in f) r.same
          ∙ ap (λ (m : Named). let f : Returned = (plain_type ty, m) in f) s.same;
      kept = r.kept;
    }

ret_back : (ret : Ret) (more : List Piece) (tokens : List Lexeme) → AreLike tokens (ret_pieces ret ++ more)
    → Again ret_pieces plain_ret IsRet ret tokens more
ret_back (Plain ty) more tokens l =
    let r = type_back ty more tokens l in
    record { again = Plain r.again; behind = r.behind; left = r.left; back = r.back; same = ap Plain r.same; kept = r.kept }
ret_back (Set ty field) more tokens l =
    let r = returned_back (word (codes "desc_data_retval")) (λ token h. h) ty field more tokens l in
    record {
      again = Set r.again.0 r.again.1;
      behind = r.behind;
      left = r.left;
      back = r.back;
      same = ap (λ (f : Returned). Set f.0 f.1) r.same;
      kept = r.kept;
    }
ret_back (Add ty field) more tokens l =
    let r = returned_back (word (codes "desc_data_retval_add")) (λ token h. h) ty field more tokens l in
    record {
      again = Add r.again.0 r.again.1;
      behind = r.behind;
      left = r.left;
      back = r.back;
      same = ap (λ (f : Returned). Add f.0 f.1) r.same;
      kept = r.kept;
    }
ret_back (Sub ty field) more tokens l =
    let r = returned_back (kept (codes "desc_data_retval_sub")) (λ token h. h) ty field more tokens l in
    record {
      again = Sub r.again.0 r.again.1;
      behind = r.behind;
      left = r.left;
      back = r.back;
      same = ap (λ (f : Returned). Sub f.0 f.1) r.same;
      kept = r.kept;
    }

-- ---- fields

more_fields_back : (ns : List Named) (more : List Piece) (tokens : List Lexeme) → AreLike tokens (more_fields ns ++ more)
    → Again more_fields (map plain_name) Any ns tokens more
more_fields_back [] more tokens l = record { again = []; behind = tokens; left = l; back = λ ps h. h; same = refl; kept = λ h. h }
more_fields_back (n ∷ ns) more tokens l =
    let o = mark_back 0x2C (name Name n ∷ (more_fields ns ++ more)) tokens l in
    let r = name_back Name n (more_fields ns ++ more) o.behind o.left in
    let s = more_fields_back ns more r.behind r.left in
    record {
      again = r.again ∷ s.again;
      behind = s.behind;
      left = s.left;
      back = λ ps h. o.back (name Name r.again ∷ (more_fields s.again ++ ps)) (r.back (more_fields s.again ++ ps) (s.back ps h));
      same = ap (λ m. m ∷ map plain_name s.again) r.same ∙ ap (λ ms. plain_name n ∷ ms) s.same;
      kept = λ h. h;
    }

abbrev fields_pieces : List Named → List Piece
fields_pieces fields = separated comma (λ n. name Name n ∷ []) fields

fields_back : (ns : List Named) (more : List Piece) (tokens : List Lexeme) → AreLike tokens (fields_pieces ns ++ more)
    → Again fields_pieces (map plain_name) Some_of ns tokens more
fields_back [] more tokens l = record { again = []; behind = tokens; left = l; back = λ ps h. h; same = refl; kept = λ h. h }
fields_back (n ∷ ns) more tokens l =
    let r = name_back Name n (more_fields ns ++ more) tokens l in
    let s = more_fields_back ns more r.behind r.left in
    record {
      again = r.again ∷ s.again;
      behind = s.behind;
      left = s.left;
      back = λ ps h. r.back (more_fields s.again ++ ps) (s.back ps h);
      same = ap (λ m. m ∷ map plain_name s.again) r.same ∙ ap (λ ms. plain_name n ∷ ms) s.same;
      kept = λ h. occupied r.again s.again;
    }

-- ---- rules of answers

-- tokens that begin with what is like pieces of rules: these, and the rest
record Split (qs : List RulePiece) (tokens : List Lexeme) (more : List Piece) : Type 0 where
  front : List Lexeme
  behind : List Lexeme
  whole : front ++ behind ≡ tokens
  are : AreRuleLike front qs
  left : AreLike behind more

split_back : (qs : List RulePiece) (more : List Piece) (tokens : List Lexeme) → AreLike tokens (map rule qs ++ more) → Split qs tokens more
split_back [] more tokens l = record { front = []; behind = tokens; whole = refl; are = tt; left = l }
split_back (q ∷ qs) more [] l = absurd l
split_back (q ∷ qs) more (t ∷ ts) l =
    let s = split_back qs more ts l.1 in
    record { front = t ∷ s.front; behind = s.behind; whole = ap (λ v. t ∷ v) s.whole; are = (l.0, s.are); left = s.left }

joined : (front behind : List Lexeme) (qs : List RulePiece) (ps : List Piece) → ArePieces IsRulePiece front qs → ArePieces IsPiece behind ps
    → ArePieces IsPiece (front ++ behind) (map rule qs ++ ps)
joined [] behind [] ps f h = h
joined [] behind (q ∷ qs) ps f h = absurd f
joined (t ∷ ts) behind [] ps f h = absurd f
joined (t ∷ ts) behind (q ∷ qs) ps f h = (f.0, joined ts behind qs ps f.1 h)

abbrev answer_pieces : List Rule → List Piece
answer_pieces rules = map rule (flat_map rule_pieces rules)

abbrev AreAnswers : List Rule → Type 0
AreAnswers rules = (rules ≢ []) × All IsRule rules

answers_back : (rules : List Rule) (more : List Piece) (tokens : List Lexeme) → AreLike tokens (answer_pieces rules ++ more)
    → Again answer_pieces (map plain_rule) AreAnswers rules tokens more
answers_back rules more tokens l =
    let s = split_back (flat_map rule_pieces rules) more tokens l in
    let r : AgainRules rules s.front = rules_back rules s.front s.are in
    record {
      again = r.again;
      behind = s.behind;
      left = s.left;
      back = λ ps h. subst (λ ts. ArePieces IsPiece ts (answer_pieces r.again ++ ps)) s.whole (joined s.front s.behind (flat_map rule_pieces r.again) ps r.pieces h);
      same = r.same;
      kept = λ h. (r.some h.0, r.kept h.1);
    }

-- ---- statements

statement_back : (s : Statement) (more : List Piece) (tokens : List Lexeme) → AreLike tokens (statement_pieces s ++ more)
    → Again statement_pieces plain_statement IsStatement s tokens more
statement_back (One w fun) more tokens l =
    let a = name_back one_word w (open_bracket ∷ name Name fun ∷ close_bracket ∷ semicolon ∷ more) tokens l in
    let o = mark_back 0x28 (name Name fun ∷ close_bracket ∷ semicolon ∷ more) a.behind a.left in
    let b = name_back Name fun (close_bracket ∷ semicolon ∷ more) o.behind o.left in
    let c = mark_back 0x29 (semicolon ∷ more) b.behind b.left in
    let e = mark_back 0x3B more c.behind c.left in
    record {
      again = One a.again b.again;
      behind = e.behind;
      left = e.left;
      back = λ ps h. a.back (open_bracket ∷ name Name b.again ∷ close_bracket ∷ semicolon ∷ ps)
          (o.back (name Name b.again ∷ close_bracket ∷ semicolon ∷ ps)
          (b.back (close_bracket ∷ semicolon ∷ ps) (c.back (semicolon ∷ ps) (e.back ps h))));
      same = ap (λ m. One m (plain_name b.again)) a.same ∙ ap (λ m. One (plain_name w) m) b.same;
      kept = λ h. h;
    }
statement_back (Two w first second) more tokens l =
    let a = name_back two_word w (open_bracket ∷ name Name first ∷ comma ∷ name Name second ∷ close_bracket ∷ semicolon ∷ more) tokens l in
    let o = mark_back 0x28 (name Name first ∷ comma ∷ name Name second ∷ close_bracket ∷ semicolon ∷ more) a.behind a.left in
    let b = name_back Name first (comma ∷ name Name second ∷ close_bracket ∷ semicolon ∷ more) o.behind o.left in
    let d = mark_back 0x2C (name Name second ∷ close_bracket ∷ semicolon ∷ more) b.behind b.left in
    let g = name_back Name second (close_bracket ∷ semicolon ∷ more) d.behind d.left in
    let c = mark_back 0x29 (semicolon ∷ more) g.behind g.left in
    let e = mark_back 0x3B more c.behind c.left in
    record {
      again = Two a.again b.again g.again;
      behind = e.behind;
      left = e.left;
      back = λ ps h. a.back (open_bracket ∷ name Name b.again ∷ comma ∷ name Name g.again ∷ close_bracket ∷ semicolon ∷ ps)
          (o.back (name Name b.again ∷ comma ∷ name Name g.again ∷ close_bracket ∷ semicolon ∷ ps)
          (b.back (comma ∷ name Name g.again ∷ close_bracket ∷ semicolon ∷ ps)
          (d.back (name Name g.again ∷ close_bracket ∷ semicolon ∷ ps)
          (g.back (close_bracket ∷ semicolon ∷ ps) (c.back (semicolon ∷ ps) (e.back ps h))))));
      same = ap (λ m. Two m (plain_name b.again) (plain_name g.again)) a.same
          ∙ (ap (λ m. Two (plain_name w) m (plain_name g.again)) b.same ∙ ap (λ m. Two (plain_name w) (plain_name first) m) g.same);
      kept = λ h. h;
    }
statement_back (Proto ret n params) more tokens l =
    let last : List Piece = close_bracket ∷ semicolon ∷ [] in
    let all : List Piece = name Name n ∷ open_bracket ∷ (params_pieces params ++ (last ++ more)) in
    let whole : AreLike tokens (ret_pieces ret ++ all)
    = subst (λ xs. AreLike tokens (ret_pieces ret ++ name Name n ∷ open_bracket ∷ xs)) (append_assoc (params_pieces params) last more)
    (subst (AreLike tokens) (append_assoc (ret_pieces ret) (name Name n ∷ open_bracket ∷ (params_pieces params ++ last)) more) l) in
    let r = ret_back ret all tokens whole in
    let a = name_back Name n (open_bracket ∷ (params_pieces params ++ (last ++ more))) r.behind r.left in
    let o = mark_back 0x28 (params_pieces params ++ (last ++ more)) a.behind a.left in
    let b = params_back params (last ++ more) o.behind o.left in
    let c = mark_back 0x29 (semicolon ∷ more) b.behind b.left in
    let e = mark_back 0x3B more c.behind c.left in
    record {
      again = Proto r.again a.again b.again;
      behind = e.behind;
      left = e.left;
      back = λ ps h.
          let tail : ArePieces IsPiece o.behind (params_pieces b.again ++ (last ++ ps)) = b.back (last ++ ps) (c.back (semicolon ∷ ps) (e.back ps h)) in
          let front : ArePieces IsPiece tokens (ret_pieces r.again ++ (name Name a.again ∷ open_bracket ∷ (params_pieces b.again ++ (last ++ ps))))
          = r.back (name Name a.again ∷ open_bracket ∷ (params_pieces b.again ++ (last ++ ps)))
          (a.back (open_bracket ∷ (params_pieces b.again ++ (last ++ ps))) (o.back (params_pieces b.again ++ (last ++ ps)) tail)) in
          subst (ArePieces IsPiece tokens) (sym (append_assoc (ret_pieces r.again) (name Name a.again ∷ open_bracket ∷ (params_pieces b.again ++ last)) ps))
          (subst (λ xs. ArePieces IsPiece tokens (ret_pieces r.again ++ name Name a.again ∷ open_bracket ∷ xs))
          (sym (append_assoc (params_pieces b.again) last ps)) front);
      same = ap (λ m. Proto m (plain_name a.again) (map plain_param b.again)) r.same
          ∙ (ap (λ m. Proto (plain_ret ret) m (map plain_param b.again)) a.same ∙ ap (λ ms. Proto (plain_ret ret) (plain_name n) ms) b.same);
      kept = λ h. (r.kept h.0, (b.kept (h.1, h.2)).0, (b.kept (h.1, h.2)).1);
    }
statement_back (External fun) more tokens l =
    let a = kept_back (codes "sm_external") (open_bracket ∷ name Name fun ∷ close_bracket ∷ semicolon ∷ more) tokens l in
    let o = mark_back 0x28 (name Name fun ∷ close_bracket ∷ semicolon ∷ more) a.behind a.left in
    let b = name_back Name fun (close_bracket ∷ semicolon ∷ more) o.behind o.left in
    let c = mark_back 0x29 (semicolon ∷ more) b.behind b.left in
    let e = mark_back 0x3B more c.behind c.left in
    record {
      again = External b.again;
      behind = e.behind;
      left = e.left;
      back = λ ps h. a.back (open_bracket ∷ name Name b.again ∷ close_bracket ∷ semicolon ∷ ps)
          (o.back (name Name b.again ∷ close_bracket ∷ semicolon ∷ ps)
          (b.back (close_bracket ∷ semicolon ∷ ps) (c.back (semicolon ∷ ps) (e.back ps h))));
      same = ap (λ m. External m) b.same;
      kept = λ h. h;
    }
statement_back (Most field most) more tokens l =
    let a = kept_back (codes "desc_data_most") (open_bracket ∷ name Name field ∷ comma ∷ number most ∷ close_bracket ∷ semicolon ∷ more) tokens l in
    let o = mark_back 0x28 (name Name field ∷ comma ∷ number most ∷ close_bracket ∷ semicolon ∷ more) a.behind a.left in
    let b = name_back Name field (comma ∷ number most ∷ close_bracket ∷ semicolon ∷ more) o.behind o.left in
    let d = mark_back 0x2C (number most ∷ close_bracket ∷ semicolon ∷ more) b.behind b.left in
    let g = number_back most (close_bracket ∷ semicolon ∷ more) d.behind d.left in
    let c = mark_back 0x29 (semicolon ∷ more) g.behind g.left in
    let e = mark_back 0x3B more c.behind c.left in
    record {
      again = Most b.again g.again;
      behind = e.behind;
      left = e.left;
      back = λ ps h. a.back (open_bracket ∷ name Name b.again ∷ comma ∷ number g.again ∷ close_bracket ∷ semicolon ∷ ps)
          (o.back (name Name b.again ∷ comma ∷ number g.again ∷ close_bracket ∷ semicolon ∷ ps)
          (b.back (comma ∷ number g.again ∷ close_bracket ∷ semicolon ∷ ps)
          (d.back (number g.again ∷ close_bracket ∷ semicolon ∷ ps)
          (g.back (close_bracket ∷ semicolon ∷ ps) (c.back (semicolon ∷ ps) (e.back ps h))))));
      same = ap (λ m. Most m (plain_name g.again)) b.same ∙ ap (λ m. Most (plain_name field) m) g.same;
      kept = λ h. h;
    }
statement_back (Unique fields) more tokens l =
    let last : List Piece = close_bracket ∷ semicolon ∷ [] in
    let a = kept_back (codes "desc_data_unique") (open_bracket ∷ (fields_pieces fields ++ (last ++ more))) tokens
    (subst (λ xs. AreLike tokens (kept (codes "desc_data_unique") ∷ open_bracket ∷ xs)) (append_assoc (fields_pieces fields) last more) l) in
    let o = mark_back 0x28 (fields_pieces fields ++ (last ++ more)) a.behind a.left in
    let b = fields_back fields (last ++ more) o.behind o.left in
    let c = mark_back 0x29 (semicolon ∷ more) b.behind b.left in
    let e = mark_back 0x3B more c.behind c.left in
    record {
      again = Unique b.again;
      behind = e.behind;
      left = e.left;
      back = λ ps h. subst (λ xs. ArePieces IsPiece tokens (kept (codes "desc_data_unique") ∷ open_bracket ∷ xs)) (sym (append_assoc (fields_pieces b.again) last ps))
          (a.back (open_bracket ∷ (fields_pieces b.again ++ (last ++ ps)))
          (o.back (fields_pieces b.again ++ (last ++ ps)) (b.back (last ++ ps) (c.back (semicolon ∷ ps) (e.back ps h)))));
      same = ap (λ m. Unique m) b.same;
      kept = b.kept;
    }
statement_back (Answer fun rules) more tokens l =
    let last : List Piece = close_brace ∷ [] in
    let inner : List Piece = answer_pieces rules in
    let a = kept_back (codes "sm_answer") (open_bracket ∷ name Name fun ∷ close_bracket ∷ open_brace ∷ (inner ++ close_brace ∷ more)) tokens
    (subst (λ xs. AreLike tokens (kept (codes "sm_answer") ∷ open_bracket ∷ name Name fun ∷ close_bracket ∷ open_brace ∷ xs)) (append_assoc inner last more) l) in
    let o = mark_back 0x28 (name Name fun ∷ close_bracket ∷ open_brace ∷ (inner ++ close_brace ∷ more)) a.behind a.left in
    let b = name_back Name fun (close_bracket ∷ open_brace ∷ (inner ++ close_brace ∷ more)) o.behind o.left in
    let c = mark_back 0x29 (open_brace ∷ (inner ++ close_brace ∷ more)) b.behind b.left in
    let d = mark_back 0x7B (inner ++ close_brace ∷ more) c.behind c.left in
    let r = answers_back rules (close_brace ∷ more) d.behind d.left in
    let e = mark_back 0x7D more r.behind r.left in
    record {
      again = Answer b.again r.again;
      behind = e.behind;
      left = e.left;
      back = λ ps h.
          let tail : ArePieces IsPiece d.behind (answer_pieces r.again ++ close_brace ∷ ps) = r.back (close_brace ∷ ps) (e.back ps h) in
          subst (λ xs. ArePieces IsPiece tokens (kept (codes "sm_answer") ∷ open_bracket ∷ name Name b.again ∷ close_bracket ∷ open_brace ∷ xs))
          (sym (append_assoc (answer_pieces r.again) last ps))
          (a.back (open_bracket ∷ name Name b.again ∷ close_bracket ∷ open_brace ∷ (answer_pieces r.again ++ close_brace ∷ ps))
          (o.back (name Name b.again ∷ close_bracket ∷ open_brace ∷ (answer_pieces r.again ++ close_brace ∷ ps))
          (b.back (close_bracket ∷ open_brace ∷ (answer_pieces r.again ++ close_brace ∷ ps))
          (c.back (open_brace ∷ (answer_pieces r.again ++ close_brace ∷ ps)) (d.back (answer_pieces r.again ++ close_brace ∷ ps) tail)))));
      same = ap (λ m. Answer m (map plain_rule r.again)) b.same ∙ ap (λ ms. Answer (plain_name fun) ms) r.same;
      kept = r.kept;
    }

record AgainAll (ss : List Statement) (tokens : List Lexeme) : Type 0 where
  again : List Statement
  pieces : ArePieces IsPiece tokens (flat_map statement_pieces again)
  same : map plain_statement again ≡ map plain_statement ss
  kept : All IsStatement ss → All IsStatement again

none_left : (tokens : List Lexeme) → AreLike tokens [] → ArePieces IsPiece tokens []
none_left [] l = tt
none_left (t ∷ ts) l = absurd l

statements_back : (ss : List Statement) (tokens : List Lexeme) → AreLike tokens (flat_map statement_pieces ss) → AgainAll ss tokens
statements_back [] tokens l = record { again = []; pieces = none_left tokens l; same = refl; kept = λ h. h }
statements_back (s ∷ ss) tokens l =
    let r = statement_back s (flat_map statement_pieces ss) tokens l in
    let q = statements_back ss r.behind r.left in
    record {
      again = r.again ∷ q.again;
      pieces = r.back (flat_map statement_pieces q.again) q.pieces;
      same = ap (λ x. x ∷ map plain_statement q.again) r.same ∙ ap (λ xs. plain_statement s ∷ xs) q.same;
      kept = λ h. All-cons IsStatement r.again q.again (r.kept (All-head IsStatement s ss h)) (q.kept (All-tail IsStatement s ss h));
    }

-- ---- facts

record AgainFact (what : List ℕ) (sort : Sort) (end : ℕ) (value : Named) (tokens : List Lexeme) (more : List Piece) : Type 0 where
  again : Named
  behind : List Lexeme
  left : AreLike behind more
  back : (ps : List Piece) → ArePieces IsPiece behind ps → ArePieces IsPiece tokens (fact_pieces what sort again (mark (end ∷ [])) ps)
  same : plain_name again ≡ plain_name value

fact_back : (what : List ℕ) (sort : Sort) (end : ℕ) (value : Named) (more : List Piece) (tokens : List Lexeme)
    → AreLike tokens (fact_pieces what sort value (mark (end ∷ [])) more) → AgainFact what sort end value tokens more
fact_back what sort end value more tokens l =
    let w = word_back what (equals ∷ name sort value ∷ mark (end ∷ []) ∷ more) tokens l in
    let q = mark_back 0x3D (name sort value ∷ mark (end ∷ []) ∷ more) w.behind w.left in
    let v = name_back sort value (mark (end ∷ []) ∷ more) q.behind q.left in
    let e = mark_back end more v.behind v.left in
    record {
      again = v.again;
      behind = e.behind;
      left = e.left;
      back = λ ps h. w.back (equals ∷ name sort v.again ∷ mark (end ∷ []) ∷ ps) (q.back (name sort v.again ∷ mark (end ∷ []) ∷ ps)
          (v.back (mark (end ∷ []) ∷ ps) (e.back ps h)));
      same = v.same;
    }

record AgainFacts (f : Facts) (tokens : List Lexeme) (more : List Piece) : Type 0 where
  again : Facts
  behind : List Lexeme
  left : AreLike behind more
  back : (ps : List Piece) → ArePieces IsPiece behind ps → ArePieces IsPiece tokens (shared_pieces again ps)
  same : plain_facts again ≡ plain_facts f
  version : again.version ≡ f.version
  eager : again.eager ≡ f.eager

abbrev facts_of : ℕ → Bool → Named → Named → Named → Named → Named → Named → Named → Facts
facts_of version eager a b c d e g h =
    record { version = version; service = a; parent = b; close = c; global = d; block = e; has_data = g; resc_data = h; eager = eager }

-- facts are equal where each of their names is
same_facts : (version : ℕ) (eager : Bool) {a b c d e g h a' b' c' d' e' g' h' : Named} → a ≡ a' → b ≡ b' → c ≡ c' → d ≡ d' → e ≡ e' → g ≡ g' → h ≡ h'
    → facts_of version eager a b c d e g h ≡ facts_of version eager a' b' c' d' e' g' h'
same_facts version eager p q r s t u v = cc

facts_back : (f : Facts) (more : List Piece) (tokens : List Lexeme) → AreLike tokens (shared_pieces f more) → AgainFacts f tokens more
facts_back f more tokens l =
    let m6 : List Piece = word (codes "resc_has_data") ∷ equals ∷ name Flag f.resc_data ∷ more in
    let m5 : List Piece = fact_pieces (codes "desc_has_data") Flag f.has_data comma m6 in
    let m4 : List Piece = fact_pieces (codes "desc_block") Flag f.block comma m5 in
    let m3 : List Piece = fact_pieces (codes "desc_is_global") Flag f.global comma m4 in
    let m2 : List Piece = fact_pieces (codes "desc_close") Closing f.close comma m3 in
    let m1 : List Piece = fact_pieces (codes "desc_has_parent") Parents f.parent comma m2 in
    let w1 = fact_back (codes "service") Name 0x2C f.service m1 tokens l in
    let w2 = fact_back (codes "desc_has_parent") Parents 0x2C f.parent m2 w1.behind w1.left in
    let w3 = fact_back (codes "desc_close") Closing 0x2C f.close m3 w2.behind w2.left in
    let w4 = fact_back (codes "desc_is_global") Flag 0x2C f.global m4 w3.behind w3.left in
    let w5 = fact_back (codes "desc_block") Flag 0x2C f.block m5 w4.behind w4.left in
    let w6 = fact_back (codes "desc_has_data") Flag 0x2C f.has_data m6 w5.behind w5.left in
    let w = word_back (codes "resc_has_data") (equals ∷ name Flag f.resc_data ∷ more) w6.behind w6.left in
    let q = mark_back 0x3D (name Flag f.resc_data ∷ more) w.behind w.left in
    let w7 = name_back Flag f.resc_data more q.behind q.left in
    record {
      again = record { version = f.version; service = w1.again; parent = w2.again; close = w3.again; global = w4.again; block = w5.again; has_data = w6.again; resc_data = w7.again; eager = f.eager };
      behind = w7.behind;
      left = w7.left;
      back = λ ps h. w1.back _ (w2.back _ (w3.back _ (w4.back _ (w5.back _ (w6.back _ (w.back _ (q.back _ (w7.back ps h))))))));
      same = same_facts f.version f.eager w1.same w2.same w3.same w4.same w5.same w6.same w7.same;
      version = refl;
      eager = refl;
    }

-- ---- the end of the head

record PastEnd (version : Version) (eager : Bool) (tokens : List Lexeme) (more : List Piece) : Type 0 where
  behind : List Lexeme
  left : AreLike behind more
  back : (ps : List Piece) → ArePieces IsPiece behind ps → ArePieces IsPiece tokens (end_by version eager ps)

last_back : (more : List Piece) (tokens : List Lexeme) → AreLike tokens (last_pieces more) → Past (close_brace ∷ semicolon ∷ []) tokens more
last_back more tokens l =
    let b = mark_back 0x7D (semicolon ∷ more) tokens l in
    let e = mark_back 0x3B more b.behind b.left in
    record { behind = e.behind; left = e.left; back = λ ps h. b.back (semicolon ∷ ps) (e.back ps h) }

recovery_back : (eager : Bool) (more : List Piece) (tokens : List Lexeme) → AreLike tokens (recovery_pieces eager more) → PastEnd v2 eager tokens more
recovery_back eager more tokens l =
    let c = mark_back 0x2C (word (codes "desc_recover") ∷ equals ∷ word (recovery_word eager) ∷ last_pieces more) tokens l in
    let w = word_back (codes "desc_recover") (equals ∷ word (recovery_word eager) ∷ last_pieces more) c.behind c.left in
    let q = mark_back 0x3D (word (recovery_word eager) ∷ last_pieces more) w.behind w.left in
    let v = word_back (recovery_word eager) (last_pieces more) q.behind q.left in
    let e = last_back more v.behind v.left in
    record { behind = e.behind; left = e.left; back = λ ps h. c.back _ (w.back _ (q.back _ (v.back _ (e.back ps h)))) }

end_back : (version : Version) (eager : Bool) (more : List Piece) (tokens : List Lexeme) → AreLike tokens (end_by version eager more) → PastEnd version eager tokens more
end_back v1 eager more tokens l = let e = last_back more tokens l in record { behind = e.behind; left = e.left; back = e.back }
end_back v2 eager more tokens l = recovery_back eager more tokens l
end_back v3 eager more tokens l = let e = recovery_back eager more tokens l in record { behind = e.behind; left = e.left; back = e.back }

-- ---- trees

pub record AgainTree (tree : Tree) (tokens : List Lexeme) : Type 0 where
  pub again : Tree
  pub pieces : ArePieces IsPiece tokens (tree_pieces again)
  pub same : plain again ≡ plain tree
  pub kept : IsWellFormed tree → IsWellFormed again

abbrev facts_by : Version → Facts → List Piece → List Piece
facts_by version f more = shared_pieces f (end_by version f.eager more)

-- a tree's facts and statements, as the pieces of the version
record AgainParts (version : Version) (tree : Tree) (tokens : List Lexeme) (pieces_of : Version → Facts → List Piece → List Piece) : Type 0 where
  again : Tree
  pieces : ArePieces IsPiece tokens (pieces_of version again.facts (flat_map statement_pieces again.statements))
  same : plain again ≡ plain tree
  version_is : again.facts.version ≡ tree.facts.version
  eager_is : again.facts.eager ≡ tree.facts.eager
  each : All IsStatement tree.statements → All IsStatement again.statements

parts_back : (version : Version) (tree : Tree) (tokens : List Lexeme) → AreLike tokens (facts_by version tree.facts (flat_map statement_pieces tree.statements)) → AgainParts version tree tokens facts_by
parts_back version tree tokens l =
    let f = facts_back tree.facts (end_by version tree.facts.eager (flat_map statement_pieces tree.statements)) tokens l in
    let e = end_back version tree.facts.eager (flat_map statement_pieces tree.statements) f.behind f.left in
    let s = statements_back tree.statements e.behind e.left in
    record {
      again = record { facts = f.again; statements = s.again };
      pieces = subst (λ eager. ArePieces IsPiece tokens (shared_pieces f.again (end_by version eager (flat_map statement_pieces s.again)))) (sym f.eager)
          (f.back _ (e.back (flat_map statement_pieces s.again) s.pieces));
      same = ap (λ (x : Facts). let t : Tree = record { facts = x; statements = map plain_statement s.again } in t) f.same
          ∙ ap (λ (xs : List Statement). let t : Tree = record { facts = plain_facts tree.facts; statements = xs } in t) s.same;
      version_is = f.version;
      eager_is = f.eager;
      each = s.kept;
    }

seen_like : (version : Newer) (tokens : List Lexeme) (pieces : List Piece) → AreLike tokens (map (newer version) pieces) → AreLike (map (seen version) tokens) pieces
seen_like version [] [] l = tt
seen_like version [] (p ∷ ps) l = absurd l
seen_like version (t ∷ ts) [] l = absurd l
seen_like version (t ∷ ts) (p ∷ ps) l = (l.0, seen_like version ts ps l.1)

newer_pieces : (version : Newer) (tokens : List Lexeme) (pieces : List Piece) → ArePieces IsPiece (map (seen version) tokens) pieces
    → ArePieces IsPiece tokens (map (newer version) pieces)
newer_pieces version [] [] l = tt
newer_pieces version [] (p ∷ ps) l = absurd l
newer_pieces version (t ∷ ts) [] l = absurd l
newer_pieces version (t ∷ ts) (p ∷ ps) l = (l.0, newer_pieces version ts ps l.1)

-- the pieces of a version's number and its marks, before a text of the version
record PastVersion (version : Newer) (tokens : List Lexeme) (more : List Piece) : Type 0 where
  behind : List Lexeme
  left : AreLike behind more
  back : (ps : List Piece) → ArePieces IsPiece behind ps → ArePieces IsPiece tokens (word (codes "version") ∷ equals ∷ version_number version ∷ comma ∷ ps)

version_back : (version : Newer) (more : List Piece) (tokens : List Lexeme) → AreLike tokens (word (codes "version") ∷ equals ∷ version_number version ∷ comma ∷ more)
    → PastVersion version tokens more
version_back version more tokens l =
    let w = word_back (codes "version") (equals ∷ version_number version ∷ comma ∷ more) tokens l in
    let q = mark_back 0x3D (version_number version ∷ comma ∷ more) w.behind w.left in
    let n = fixed_back (version_number version) (λ token h. h) (comma ∷ more) q.behind q.left in
    let c = mark_back 0x2C more n.behind n.left in
    record { behind = c.behind; left = c.left; back = λ ps h. w.back _ (q.back _ (n.back _ (c.back ps h))) }

brace_back : (version : Version) (tree : Tree) (tokens : List Lexeme) → AreLike tokens (after_brace version tree.facts (flat_map statement_pieces tree.statements))
    → AgainParts version tree tokens after_brace
brace_back v1 tree tokens l =
    let p = parts_back v1 tree tokens l in
    record { again = p.again; pieces = p.pieces; same = p.same; version_is = p.version_is; eager_is = p.eager_is; each = p.each }
brace_back v2 tree tokens l =
    let inner : List Piece = facts_by v2 tree.facts (flat_map statement_pieces tree.statements) in
    let n = version_back Second (map (newer Second) inner) tokens l in
    let p = parts_back v2 tree (map (seen Second) n.behind) (seen_like Second n.behind inner n.left) in
    record {
      again = p.again;
      pieces = n.back _ (newer_pieces Second n.behind (facts_by v2 p.again.facts (flat_map statement_pieces p.again.statements)) p.pieces);
      same = p.same;
      version_is = p.version_is;
      eager_is = p.eager_is;
      each = p.each;
    }
brace_back v3 tree tokens l =
    let inner : List Piece = facts_by v3 tree.facts (flat_map statement_pieces tree.statements) in
    let n = version_back Third (map (newer Second) (map (newer Third) inner)) tokens l in
    let second : List Lexeme = map (seen Second) n.behind in
    let p = parts_back v3 tree (map (seen Third) second) (seen_like Third second inner (seen_like Second n.behind (map (newer Third) inner) n.left)) in
    let again : List Piece = facts_by v3 p.again.facts (flat_map statement_pieces p.again.statements) in
    record {
      again = p.again;
      pieces = n.back _ (newer_pieces Second n.behind (map (newer Third) again) (newer_pieces Third second again p.pieces));
      same = p.same;
      version_is = p.version_is;
      eager_is = p.eager_is;
      each = p.each;
    }

head_kept : (one other : Facts) → one.version ≡ other.version → one.eager ≡ other.eager → IsHead other → IsHead one
head_kept one other v e (inl h) = inl (v ∙ h.0, e ∙ h.1)
head_kept one other v e (inr (inl h)) = inr (inl (v ∙ h))
head_kept one other v e (inr (inr h)) = inr (inr (v ∙ h))

-- the whole of a tree
abbrev whole_of : Version → Facts → List Piece → List Piece
whole_of version f more = word (codes "service_global_info") ∷ equals ∷ open_brace ∷ after_brace version f more

whole_back : (version : Version) (tree : Tree) (tokens : List Lexeme) → AreLike tokens (whole_of version tree.facts (flat_map statement_pieces tree.statements))
    → AgainParts version tree tokens whole_of
whole_back version tree tokens l =
    let more : List Piece = after_brace version tree.facts (flat_map statement_pieces tree.statements) in
    let w = word_back (codes "service_global_info") (equals ∷ open_brace ∷ more) tokens l in
    let q = mark_back 0x3D (open_brace ∷ more) w.behind w.left in
    let o = mark_back 0x7B more q.behind q.left in
    let p = brace_back version tree o.behind o.left in
    record {
      again = p.again;
      pieces = w.back _ (q.back _ (o.back _ p.pieces));
      same = p.same;
      version_is = p.version_is;
      eager_is = p.eager_is;
      each = p.each;
    }

-- a tree with the number of its version written out
abbrev as_version : Tree → ℕ → Tree
as_version tree n = record { facts = record tree.facts { version = n }; statements = tree.statements }

pub tree_back : (tree : Tree) (tokens : List Lexeme) → IsHead tree.facts → AreLike tokens (tree_pieces tree) → AgainTree tree tokens
tree_back tree tokens head l = by head
  where
    told : (version : Version) (p : AgainParts version tree tokens whole_of) → ArePieces IsPiece tokens (tree_pieces p.again) → AgainTree tree tokens
    told version p pieces =
        record { again = p.again; pieces = pieces; same = p.same; kept = λ h. (head_kept p.again.facts tree.facts p.version_is p.eager_is h.0, p.each h.1) }

    by : IsHead tree.facts → AgainTree tree tokens
    by (inl first) =
        let p = whole_back v1 tree tokens (subst (λ n. AreLike tokens (tree_pieces (as_version tree n))) first.0 l) in
        told v1 p (subst (λ n. ArePieces IsPiece tokens (tree_pieces (as_version p.again n))) (sym (p.version_is ∙ first.0)) p.pieces)
    by (inr (inl second)) =
        let p = whole_back v2 tree tokens (subst (λ n. AreLike tokens (tree_pieces (as_version tree n))) second l) in
        told v2 p (subst (λ n. ArePieces IsPiece tokens (tree_pieces (as_version p.again n))) (sym (p.version_is ∙ second)) p.pieces)
    by (inr (inr third)) =
        let p = whole_back v3 tree tokens (subst (λ n. AreLike tokens (tree_pieces (as_version tree n))) third l) in
        told v3 p (subst (λ n. ArePieces IsPiece tokens (tree_pieces (as_version p.again n))) (sym (p.version_is ∙ third)) p.pieces)
