-- One token: from the state before it, and from the state after it.
use Rattle.std.proofs.Common.{◌≡◌, ℕ, zero, suc, ◌+◌, inl, inr, false, if◌then◌else◌, List, [], ◌∷◌, ◌++◌, map, refl, sym, ap, subst, ◌∙◌, append_assoc, arith}
use Rattle.std.specs.Prelude.{codes, None, Some, replicate, All}
use Rattle.std.specs.List.{flat_map}
use Rattle.std.specs.declared.option.Option.{Option}
use Rattle.std.specs.Option.{option_map}
use Rattle.std.proofs.lemmas.List.{append-nil}
use Rattle.std.proofs.lemmas.List.Elements.{All-cons, All-head, All-tail, All-nil}
use Rattle.sg_rules.specs.sg_lex.Lexeme.{Lexeme, Spelling as Named}
use Rattle.sg_parse.specs.declared.tree.Statement.{Statement}
use Rattle.sg_parse.specs.declared.tree.Param.{Param}
use Rattle.sg_parse.specs.declared.tree.Tree.{Tree}
use Rattle.sg_parse.specs.declared.words.Sort.TheVariants.{Name, Form}
use Rattle.sg_rules.specs.sg_lex.declared.token.TokenKind.TheVariants.{Number}
use Rattle.sg_rules.specs.sg_lex.Inside.Tests.{has_kind}
use Rattle.sg_rules.specs.declared.version.Newer.TheVariants.{Second, Third}
use Rattle.sg_rules.specs.declared.tree.Rule.{Rule}
use Rattle.sg_rules.specs.Versions.{seen}
use Rattle.sg_rules.specs.Grammar.Pieces.{RulePiece}
use Rattle.sg_rules.specs.Grammar.Inside.States.{RuleState, step as rule_step, rules_at}
use Rattle.sg_rules.proofs.Grammar.Basics.{no_brace}
use Rattle.sg_rules.proofs.Grammar.Steps.{GoesOn, there, onward, back as rule_back, forth as rule_forth}
use Rattle.sg_parse.specs.Grammar.Pieces.{Piece, word, mark, name, number, version_number, newer, rule, IsPiece}
use Rattle.sg_parse.specs.Grammar.Sentence.{param_pieces, statement_pieces, IsStatement}
use Rattle.sg_parse.specs.Grammar.Inside.Forms.{star, comma, close_brace, close_bracket, more_fields, more_params, IsType}
use Rattle.sg_parse.specs.Grammar.Inside.States.{State, dead, due, fork, want, want_number, versioned, names, stars, either, listed, fielded, answering, statements, in_newer, has_sort, fits, named_by, param, with_statement, answering_after, step}
use Rattle.sg_parse.proofs.Grammar.Basics.{not_both, some_is, none_is, by_test, if_then, if_else, has_sort-is, is-has_sort, named, fits-is, is-fits, alike-has_sort, alike-fits_mark, alike-fits_word, mark-has_sort, mark-fits_mark, number-is, is-number, number_named, third-fits_second}
use Rattle.sg_parse.proofs.Grammar.Rests.{Off, Rest, front_of, last_of}
use Rattle.sg_parse.proofs.Grammar.Parts.{param_back, param_forth, listed_closed}
use Rattle.sg_parse.proofs.Grammar.Protos.{head_is, tail_is, statement_back, statement_forth, Follows}

-- the token is a piece, and from the state these pieces go on
pub record Comes (s : State) (token : Lexeme) (ps : List Piece) (tree : Tree) : Type 0 where
  pub piece : Piece
  pub is : IsPiece token piece
  pub rest : Rest s (piece ∷ ps) tree

-- where a test of a token fails it fails of the piece that the token is
off_mark : (b : List ℕ) (p : Piece) (ps : List Piece) (token : Lexeme) → IsPiece token p → fits (mark b) token ≡ false → Off (fits (mark b)) (p ∷ ps)
off_mark b p ps token is h = λ other g. alike-fits_mark b p token other is g h

pub back : (s : State) (token : Lexeme) (next : State) (ps : List Piece) (tree : Tree) → step s token ≡ Some next → Rest next ps tree → Comes s token ps tree
unfolding step
back dead token next ps tree e r = none_is (Comes dead token ps tree) next None refl e
back (due p s) token next ps tree e r =
    by_test (fits p token)
    (λ h.
    let g = some_is s next (sym (if_then (fits p token) (Some s) None h) ∙ e) in
    record { piece = p; is = fits-is p token h; rest = record { behind = ps; all = refl; rest = subst (λ v. Rest v ps tree) (sym g) r } })
    (λ h. none_is (Comes (due p s) token ps tree) next (if fits p token then Some s else None) (if_else (fits p token) (Some s) None h) e)
back (fork what s other) token next ps tree e r =
    by_test (fits (word what) token)
    (λ h.
    let g = some_is s next (sym (if_then (fits (word what) token) _ _ h) ∙ e) in
    record { piece = word what; is = fits-is (word what) token h; rest = inl (record { behind = ps; all = refl; rest = subst (λ v. Rest v ps tree) (sym g) r }) })
    (λ h.
    let c = back other token next ps tree (sym (if_else (fits (word what) token) (Some s) (step other token) h) ∙ e) r in
    record { piece = c.piece; is = c.is; rest = inr ((λ another g. alike-fits_word what c.piece token another c.is g h), c.rest) })
back (want sort k) token next ps tree e r =
    by_test (has_sort sort token)
    (λ h.
    let g = some_is (k (named_by token)) next (sym (if_then (has_sort sort token) (Some (k (named_by token))) None h) ∙ e) in
    record {
      piece = name sort (named_by token);
      is = has_sort-is sort token h;
      rest = record { value = named_by token; behind = ps; all = refl; rest = subst (λ v. Rest v ps tree) (sym g) r };
    })
    (λ h. none_is (Comes (want sort k) token ps tree) next (if has_sort sort token then Some (k (named_by token)) else None)
    (if_else (has_sort sort token) (Some (k (named_by token))) None h) e)
back (want_number k) token next ps tree e r =
    by_test (has_kind Number token)
    (λ h.
    let g = some_is (k (named_by token)) next (sym (if_then (has_kind Number token) (Some (k (named_by token))) None h) ∙ e) in
    record {
      piece = number (named_by token);
      is = number-is token h;
      rest = record { value = named_by token; behind = ps; all = refl; rest = subst (λ v. Rest v ps tree) (sym g) r };
    })
    (λ h. none_is (Comes (want_number k) token ps tree) next (if has_kind Number token then Some (k (named_by token)) else None)
    (if_else (has_kind Number token) (Some (k (named_by token))) None h) e)
back (versioned two three) token next ps tree e r =
    by_test (fits (version_number Second) token)
    (λ h.
    let g = some_is two next (sym (if_then (fits (version_number Second) token) _ _ h) ∙ e) in
    record {
      piece = version_number Second;
      is = fits-is (version_number Second) token h;
      rest = inl (record { behind = ps; all = refl; rest = subst (λ v. Rest v ps tree) (sym g) r });
    })
    (λ h1. let e1 = sym (if_else (fits (version_number Second) token) _ _ h1) ∙ e in
    by_test (fits (version_number Third) token)
    (λ h.
    let g = some_is three next (sym (if_then (fits (version_number Third) token) _ _ h) ∙ e1) in
    record {
      piece = version_number Third;
      is = fits-is (version_number Third) token h;
      rest = inr (record { behind = ps; all = refl; rest = subst (λ v. Rest v ps tree) (sym g) r });
    })
    (λ h. none_is (Comes (versioned two three) token ps tree) next (if fits (version_number Third) token then Some three else None)
    (if_else (fits (version_number Third) token) (Some three) None h) e1))
back (names front last k) token next ps tree e r =
    by_test (has_sort Name token)
    (λ h.
    let g = some_is (names (front ++ last ∷ []) (named_by token) k) next (sym (if_then (has_sort Name token) _ _ h) ∙ e) in
    let t = subst (λ v. Rest v ps tree) (sym g) r in
    record {
      piece = name Name (named_by token);
      is = has_sort-is Name token h;
      rest = record {
        more = named_by token ∷ t.more;
        count = t.count;
        behind = t.behind;
        all = ap (λ v. name Name (named_by token) ∷ v) t.all;
        off_star = t.off_star;
        off_name = t.off_name;
        rest = t.rest;
      };
    })
    (λ h1. let e1 = sym (if_else (has_sort Name token) _ _ h1) ∙ e in
    by_test (fits star token)
    (λ h.
    let g = some_is (stars front last 1 k) next (sym (if_then (fits star token) _ _ h) ∙ e1) in
    let t = subst (λ v. Rest v ps tree) (sym g) r in
    record {
      piece = star;
      is = fits-is star token h;
      rest = record {
        more = [];
        count = suc t.count;
        behind = t.behind;
        all = ap (λ v. star ∷ v) t.all;
        off_star = t.off_star;
        off_name = λ z. absurd (let f : suc t.count ≡ 0 = z in omega arith);
        rest = subst (λ v. Rest (k front last v) t.behind tree) (let f : 1 + t.count ≡ suc t.count = omega arith in f) t.rest;
      };
    })
    (λ h2.
    let c = back (k front last 0) token next ps tree (sym (if_else (fits star token) (Some (stars front last 1 k)) (step (k front last 0) token) h2) ∙ e1) r in
    record {
      piece = c.piece;
      is = c.is;
      rest = record {
        more = [];
        count = 0;
        behind = c.piece ∷ ps;
        all = refl;
        off_star = off_mark (codes "*") c.piece ps token c.is h2;
        off_name = λ _ other g. alike-has_sort Name c.piece token other c.is g h1;
        rest = c.rest;
      };
    }))
back (stars front last n k) token next ps tree e r =
    by_test (fits star token)
    (λ h.
    let g = some_is (stars front last (n + 1) k) next (sym (if_then (fits star token) _ _ h) ∙ e) in
    let t = subst (λ v. Rest v ps tree) (sym g) r in
    record {
      piece = star;
      is = fits-is star token h;
      rest = record {
        count = suc t.count;
        behind = t.behind;
        all = ap (λ v. star ∷ v) t.all;
        off_star = t.off_star;
        rest = subst (λ v. Rest (k front last v) t.behind tree) (let f : n + 1 + t.count ≡ n + suc t.count = omega arith in f) t.rest;
      };
    })
    (λ h2.
    let c = back (k front last n) token next ps tree (sym (if_else (fits star token) (Some (stars front last (n + 1) k)) (step (k front last n) token) h2) ∙ e) r in
    record {
      piece = c.piece;
      is = c.is;
      rest = record {
        count = 0;
        behind = c.piece ∷ ps;
        all = refl;
        off_star = off_mark (codes "*") c.piece ps token c.is h2;
        rest = subst (λ v. Rest (k front last v) (c.piece ∷ ps) tree) (let f : n ≡ n + 0 = omega arith in f) c.rest;
      };
    })
back (either k s) token next ps tree e r =
    by_test (has_sort Form token)
    (λ h.
    let g = some_is (k (named_by token)) next (sym (if_then (has_sort Form token) _ _ h) ∙ e) in
    record {
      piece = name Form (named_by token);
      is = has_sort-is Form token h;
      rest = inl (record { value = named_by token; behind = ps; all = refl; rest = subst (λ v. Rest v ps tree) (sym g) r });
    })
    (λ h.
    let c = back s token next ps tree (sym (if_else (has_sort Form token) (Some (k (named_by token))) (step s token) h) ∙ e) r in
    record { piece = c.piece; is = c.is; rest = inr ((λ other g. alike-has_sort Form c.piece token other c.is g h), c.rest) })
back (listed params k) token next ps tree e r =
    by_test (fits comma token)
    (λ h.
    let g = some_is (param k params) next (sym (if_then (fits comma token) _ _ h) ∙ e) in
    let p = param_back k params tree ps (subst (λ v. Rest v ps tree) (sym g) r) in
    let l = p.rest in
    record {
      piece = comma;
      is = fits-is comma token h;
      rest = record {
        more = p.value ∷ l.more;
        behind = l.behind;
        all = ap (λ v. comma ∷ v) (p.all ∙ ap (λ v. param_pieces p.value ++ v) l.all
            ∙ sym (append_assoc (param_pieces p.value) (more_params l.more) (close_bracket ∷ l.behind)));
        types = All-cons (λ q. IsType q.ty) p.value l.more p.is_type l.types;
        rest = subst (λ v. Rest (k v) l.behind tree) (append_assoc params (p.value ∷ []) l.more) l.rest;
      };
    })
    (λ h1. let e1 = sym (if_else (fits comma token) _ _ h1) ∙ e in
    by_test (fits close_bracket token)
    (λ h.
    let g = some_is (k params) next (sym (if_then (fits close_bracket token) _ _ h) ∙ e1) in
    record {
      piece = close_bracket;
      is = fits-is close_bracket token h;
      rest = record {
        more = [];
        behind = ps;
        all = refl;
        types = All-nil (λ q. IsType q.ty);
        rest = subst (λ v. Rest (k v) ps tree) (sym (append-nil params)) (subst (λ v. Rest v ps tree) (sym g) r);
      };
    })
    (λ h. none_is (Comes (listed params k) token ps tree) next (if fits close_bracket token then Some (k params) else None)
    (if_else (fits close_bracket token) (Some (k params)) None h) e1))
back (fielded fields k) token next ps tree e r =
    by_test (fits comma token)
    (λ h.
    let g = some_is (want Name (λ n. fielded (fields ++ n ∷ []) k)) next (sym (if_then (fits comma token) _ _ h) ∙ e) in
    let p = subst (λ v. Rest v ps tree) (sym g) r in
    let l = p.rest in
    record {
      piece = comma;
      is = fits-is comma token h;
      rest = record {
        more = p.value ∷ l.more;
        behind = l.behind;
        all = ap (λ v. comma ∷ v) (p.all ∙ ap (λ v. name Name p.value ∷ v) l.all);
        rest = subst (λ v. Rest (k v) l.behind tree) (append_assoc fields (p.value ∷ []) l.more) l.rest;
      };
    })
    (λ h1. let e1 = sym (if_else (fits comma token) _ _ h1) ∙ e in
    by_test (fits close_bracket token)
    (λ h.
    let g = some_is (k fields) next (sym (if_then (fits close_bracket token) _ _ h) ∙ e1) in
    record {
      piece = close_bracket;
      is = fits-is close_bracket token h;
      rest = record {
        more = [];
        behind = ps;
        all = refl;
        rest = subst (λ v. Rest (k v) ps tree) (sym (append-nil fields)) (subst (λ v. Rest v ps tree) (sym g) r);
      };
    })
    (λ h. none_is (Comes (fielded fields k) token ps tree) next (if fits close_bracket token then Some (k fields) else None)
    (if_else (fits close_bracket token) (Some (k fields)) None h) e1))
back (answering r k) token next ps tree e rest = by (rule_step r token) (rules_at r) refl refl e
  where
    by : (found : Option RuleState) (rules : Option (List Rule)) → rule_step r token ≡ found → rules_at r ≡ rules → answering_after k token found rules ≡ Some next
        → Comes (answering r k) token ps tree
    by (Some inner) rules is at found =
        let t = subst (λ v. Rest v ps tree) (sym (some_is (answering inner k) next found)) rest in
        let c = rule_back r token inner is in
        record {
          piece = rule c.piece;
          is = c.is;
          rest = record {
            pieces = c.piece ∷ t.pieces;
            end = t.end;
            rules = t.rules;
            behind = t.behind;
            all = ap (λ v. rule c.piece ∷ v) t.all;
            goes = onward c.goes t.goes;
            ends = t.ends;
            rest = t.rest;
          };
        }
    by None (Some rules) is at found =
        by_test (fits close_brace token)
        (λ h.
        let g = some_is (k rules) next (sym (if_then (fits close_brace token) (Some (k rules)) None h) ∙ found) in
        record {
          piece = close_brace;
          is = fits-is close_brace token h;
          rest = record {
            pieces = [];
            end = r;
            rules = rules;
            behind = ps;
            all = refl;
            goes = there;
            ends = at;
            rest = subst (λ v. Rest v ps tree) (sym g) rest;
          };
        })
        (λ h. none_is (Comes (answering r k) token ps tree) next (if fits close_brace token then Some (k rules) else None)
        (if_else (fits close_brace token) (Some (k rules)) None h) found)
    by None None is at found = none_is (Comes (answering r k) token ps tree) next None refl found
back (statements facts before) token next ps tree e r =
    let s = statement_back (with_statement facts before) tree token next ps e r in
    let m = s.rest in
    record {
      piece = s.piece;
      is = s.is;
      rest = record {
        more = s.statement ∷ m.more;
        all = s.all ∙ ap (λ v. statement_pieces s.statement ++ v) m.all;
        each = All-cons IsStatement s.statement m.more s.is_statement m.each;
        is = m.is ∙ ap (λ v. record { facts = facts; statements = v }) (append_assoc before (s.statement ∷ []) m.more);
      };
    }
back (in_newer version s) token next ps tree e r = by (λ inner qs is rest. back s (seen version token) inner qs tree is rest) (step s (seen version token)) refl e
  where
    by : ((inner : State) (qs : List Piece) → step s (seen version token) ≡ Some inner → Rest inner qs tree → Comes s (seen version token) qs tree)
        → (found : Option State) → step s (seen version token) ≡ found → option_map (in_newer version) found ≡ Some next → Comes (in_newer version s) token ps tree
    by deeper None is found = absurd (cc found)
    by deeper (Some inner) is found =
        let t = subst (λ v. Rest v ps tree) (sym (some_is (in_newer version inner) next found)) r in
        let c = deeper inner t.behind is t.rest in
        record { piece = newer version c.piece; is = c.is; rest = record { behind = c.piece ∷ t.behind; all = ap (λ v. newer version c.piece ∷ v) t.all; rest = c.rest } }

-- ---- from the state before a token

pub forth : (s : State) (token : Lexeme) (p : Piece) (ps : List Piece) (tree : Tree) → IsPiece token p → Rest s (p ∷ ps) tree → Follows (step s token) ps tree
unfolding step
forth dead token p ps tree is r = absurd r
forth (due q s) token p ps tree is r =
    let e0 : p ≡ q = head_is r.all in
    record {
      next = s;
      is = if_then (fits q token) _ _ (is-fits q token (subst (IsPiece token) e0 is));
      rest = subst (λ v. Rest s v tree) (sym (tail_is r.all)) r.rest;
    }
forth (fork what s other) token p ps tree is r =
    elim r [
      | inl h ↦ record {
        next = s;
        is = if_then (fits (word what) token) _ _ (is-fits (word what) token (subst (IsPiece token) (head_is h.all) is));
        rest = subst (λ v. Rest s v tree) (sym (tail_is h.all)) h.rest;
      }
      | inr h ↦
          let f = forth other token p ps tree is h.1 in
          record { next = f.next; is = if_else (fits (word what) token) _ _ (h.0 token is) ∙ f.is; rest = f.rest }
    ]
forth (want sort k) token p ps tree is r =
    let is1 = subst (IsPiece token) (head_is r.all) is in
    record {
      next = k (named_by token);
      is = if_then (has_sort sort token) _ _ (is-has_sort sort token r.value is1);
      rest = subst (λ v. Rest (k v) ps tree) (sym (named sort token r.value is1)) (subst (λ v. Rest (k r.value) v tree) (sym (tail_is r.all)) r.rest);
    }
forth (want_number k) token p ps tree is r =
    let is1 = subst (IsPiece token) (head_is r.all) is in
    record {
      next = k (named_by token);
      is = if_then (has_kind Number token) _ _ (is-number token r.value is1);
      rest = subst (λ v. Rest (k v) ps tree) (sym (number_named token r.value is1)) (subst (λ v. Rest (k r.value) v tree) (sym (tail_is r.all)) r.rest);
    }
forth (versioned two three) token p ps tree is r =
    elim r [
      | inl h ↦ record {
        next = two;
        is = if_then (fits (version_number Second) token) _ _ (is-fits (version_number Second) token (subst (IsPiece token) (head_is h.all) is));
        rest = subst (λ v. Rest two v tree) (sym (tail_is h.all)) h.rest;
      }
      | inr h ↦
          let is1 = subst (IsPiece token) (head_is h.all) is in
          record {
            next = three;
            is = if_else (fits (version_number Second) token) _ _ (third-fits_second token is1)
                ∙ if_then (fits (version_number Third) token) _ _ (is-fits (version_number Third) token is1);
            rest = subst (λ v. Rest three v tree) (sym (tail_is h.all)) h.rest;
          }
    ]
forth (names front last k) token p ps tree is r = by (λ v. forth (k front last 0) token p ps tree is v) r.more r.count refl refl
  where
    by : (Rest (k front last 0) (p ∷ ps) tree → Follows (step (k front last 0) token) ps tree) → (more : List Named) (count : ℕ) → r.more ≡ more → r.count ≡ count → Follows (step (names front last k) token) ps tree
    by deeper (n ∷ more) count e c =
        let all : p ∷ ps ≡ name Name n ∷ (map (name Name) more ++ (replicate r.count star ++ r.behind)) =
        r.all ∙ ap (λ v. map (name Name) v ++ (replicate r.count star ++ r.behind)) e in
        let is1 = subst (IsPiece token) (head_is all) is in
        record {
          next = names (front ++ last ∷ []) (named_by token) k;
          is = if_then (has_sort Name token) _ _ (is-has_sort Name token n is1);
          rest = record {
            more = more;
            count = r.count;
            behind = r.behind;
            all = tail_is all;
            off_star = r.off_star;
            off_name = r.off_name;
            rest = subst (λ v. Rest (k (front_of (front ++ last ∷ []) v more) (last_of v more) r.count) r.behind tree) (sym (named Name token n is1))
                (subst (λ v. Rest (k (front_of front last v) (last_of last v) r.count) r.behind tree) e r.rest);
          };
        }
    by deeper [] (suc count) e c =
        let all : p ∷ ps ≡ star ∷ (replicate count star ++ r.behind) =
        r.all ∙ ap (λ v. map (name Name) v ++ (replicate r.count star ++ r.behind)) e ∙ ap (λ v. replicate v star ++ r.behind) c in
        let is1 = subst (IsPiece token) (head_is all) is in
        record {
          next = stars front last 1 k;
          is = if_else (has_sort Name token) _ _ (mark-has_sort Name token is1.0) ∙ if_then (fits star token) _ _ (is-fits star token is1);
          rest = record {
            count = count;
            behind = r.behind;
            all = tail_is all;
            off_star = r.off_star;
            rest = subst (λ v. Rest (k front last v) r.behind tree) (let f : suc count ≡ 1 + count = omega arith in c ∙ f)
                (subst (λ v. Rest (k (front_of front last v) (last_of last v) r.count) r.behind tree) e r.rest);
          };
        }
    by deeper [] zero e c =
        let all : p ∷ ps ≡ r.behind =
        r.all ∙ ap (λ v. map (name Name) v ++ (replicate r.count star ++ r.behind)) e ∙ ap (λ v. replicate v star ++ r.behind) c in
        let no_star = subst (Off (fits star)) (sym all) r.off_star token is in
        let no_name = subst (Off (has_sort Name)) (sym all) (r.off_name c) token is in
        let f = deeper
        (subst (λ v. Rest (k front last 0) v tree) (sym all)
        (subst (λ v. Rest (k front last v) r.behind tree) c
        (subst (λ v. Rest (k (front_of front last v) (last_of last v) r.count) r.behind tree) e r.rest))) in
        record { next = f.next; is = if_else (has_sort Name token) _ _ no_name ∙ if_else (fits star token) _ _ no_star ∙ f.is; rest = f.rest }
forth (stars front last n k) token p ps tree is r = by (λ v. forth (k front last n) token p ps tree is v) r.count refl
  where
    by : (Rest (k front last n) (p ∷ ps) tree → Follows (step (k front last n) token) ps tree) → (count : ℕ) → r.count ≡ count → Follows (step (stars front last n k) token) ps tree
    by deeper (suc count) c =
        let all : p ∷ ps ≡ star ∷ (replicate count star ++ r.behind) = r.all ∙ ap (λ v. replicate v star ++ r.behind) c in
        let is1 = subst (IsPiece token) (head_is all) is in
        record {
          next = stars front last (n + 1) k;
          is = if_then (fits star token) _ _ (is-fits star token is1);
          rest = record {
            count = count;
            behind = r.behind;
            all = tail_is all;
            off_star = r.off_star;
            rest = subst (λ v. Rest (k front last v) r.behind tree) (let f : n + r.count ≡ n + 1 + count = omega arith in f) r.rest;
          };
        }
    by deeper zero c =
        let all : p ∷ ps ≡ r.behind = r.all ∙ ap (λ v. replicate v star ++ r.behind) c in
        let no_star = subst (Off (fits star)) (sym all) r.off_star token is in
        let f = deeper
        (subst (λ v. Rest (k front last n) v tree) (sym all)
        (subst (λ v. Rest (k front last v) r.behind tree) (let g : n + r.count ≡ n = omega arith in g) r.rest)) in
        record { next = f.next; is = if_else (fits star token) _ _ no_star ∙ f.is; rest = f.rest }
forth (either k s) token p ps tree is r =
    elim r [
      | inl h ↦
          let is1 = subst (IsPiece token) (head_is h.all) is in
          record {
            next = k (named_by token);
            is = if_then (has_sort Form token) _ _ (is-has_sort Form token h.value is1);
            rest = subst (λ v. Rest (k v) ps tree) (sym (named Form token h.value is1)) (subst (λ v. Rest (k h.value) v tree) (sym (tail_is h.all)) h.rest);
          }
      | inr h ↦
          let f = forth s token p ps tree is h.1 in
          record { next = f.next; is = if_else (has_sort Form token) _ _ (h.0 token is) ∙ f.is; rest = f.rest }
    ]
forth (listed params k) token p ps tree is r = by r.more refl
  where
    by : (more : List Param) → r.more ≡ more → Follows (step (listed params k) token) ps tree
    by [] e =
        let all : p ∷ ps ≡ close_bracket ∷ r.behind = r.all ∙ ap (λ v. more_params v ++ close_bracket ∷ r.behind) e in
        let is1 = subst (IsPiece token) (head_is all) is in
        record {
          next = k params;
          is = if_else (fits comma token) _ _ (mark-fits_mark (codes ")") (codes ",") token is1 refl) ∙ if_then (fits close_bracket token) _ _ (is-fits close_bracket token is1);
          rest = subst (λ v. Rest (k params) v tree) (sym (tail_is all))
              (subst (λ v. Rest (k v) r.behind tree) (ap (λ v. params ++ v) e ∙ append-nil params) r.rest);
        }
    by (q ∷ more) e =
        let all : p ∷ ps ≡ comma ∷ (param_pieces q ++ (more_params more ++ close_bracket ∷ r.behind)) =
        r.all ∙ ap (λ v. more_params v ++ close_bracket ∷ r.behind) e
        ∙ ap (λ v. comma ∷ v) (append_assoc (param_pieces q) (more_params more) (close_bracket ∷ r.behind)) in
        let is1 = subst (IsPiece token) (head_is all) is in
        let types = subst (All (λ q. IsType q.ty)) e r.types in
        let whole = param_forth k params tree q (more_params more ++ close_bracket ∷ r.behind) (All-head (λ q. IsType q.ty) q more types)
        (listed_closed more r.behind)
        (record {
          more = more;
          behind = r.behind;
          all = refl;
          types = All-tail (λ q. IsType q.ty) q more types;
          rest = subst (λ v. Rest (k v) r.behind tree) (ap (λ v. params ++ v) e ∙ sym (append_assoc params (q ∷ []) more)) r.rest;
        }) in
        record {
          next = param k params;
          is = if_then (fits comma token) _ _ (is-fits comma token is1);
          rest = subst (λ v. Rest (param k params) v tree) (sym (tail_is all)) whole;
        }
forth (fielded fields k) token p ps tree is r = by r.more refl
  where
    by : (more : List Named) → r.more ≡ more → Follows (step (fielded fields k) token) ps tree
    by [] e =
        let all : p ∷ ps ≡ close_bracket ∷ r.behind = r.all ∙ ap (λ v. more_fields v ++ close_bracket ∷ r.behind) e in
        let is1 = subst (IsPiece token) (head_is all) is in
        record {
          next = k fields;
          is = if_else (fits comma token) _ _ (mark-fits_mark (codes ")") (codes ",") token is1 refl) ∙ if_then (fits close_bracket token) _ _ (is-fits close_bracket token is1);
          rest = subst (λ v. Rest (k fields) v tree) (sym (tail_is all))
              (subst (λ v. Rest (k v) r.behind tree) (ap (λ v. fields ++ v) e ∙ append-nil fields) r.rest);
        }
    by (n ∷ more) e =
        let all : p ∷ ps ≡ comma ∷ name Name n ∷ (more_fields more ++ close_bracket ∷ r.behind) = r.all ∙ ap (λ v. more_fields v ++ close_bracket ∷ r.behind) e in
        let is1 = subst (IsPiece token) (head_is all) is in
        record {
          next = want Name (λ m. fielded (fields ++ m ∷ []) k);
          is = if_then (fits comma token) _ _ (is-fits comma token is1);
          rest = subst (λ v. Rest (want Name (λ m. fielded (fields ++ m ∷ []) k)) v tree) (sym (tail_is all))
              (record {
                value = n;
                behind = more_fields more ++ close_bracket ∷ r.behind;
                all = refl;
                rest = record {
                  more = more;
                  behind = r.behind;
                  all = refl;
                  rest = subst (λ v. Rest (k v) r.behind tree) (ap (λ v. fields ++ v) e ∙ sym (append_assoc fields (n ∷ []) more)) r.rest;
                };
              });
        }
forth (answering r k) token p ps tree is rest = by rest.pieces rest.all rest.goes
  where
    by : (pieces : List RulePiece) → p ∷ ps ≡ map rule pieces ++ close_brace ∷ rest.behind → GoesOn r pieces rest.end → Follows (step (answering r k) token) ps tree
    by [] all goes = closed r rest.end rest.ends goes
      where
        is1 : IsPiece token close_brace
        is1 = subst (IsPiece token) (head_is all) is

        -- no rule goes on with the brace
        stops : (r : RuleState) → rule_step r token ≡ None
        stops r = at (rule_step r token) refl
          where
            at : (found : Option RuleState) → rule_step r token ≡ found → found ≡ None
            at None e = refl
            at (Some inner) e = let c = rule_back r token inner e in absurd (not_both (fits close_brace token) (is-fits close_brace token is1) (no_brace c.piece token c.is))

        closed : (r end : RuleState) → rules_at end ≡ Some rest.rules → GoesOn r [] end → Follows (step (answering r k) token) ps tree
        closed r end ends there = record {
          next = k rest.rules;
          is = ap (λ v. answering_after k token v (rules_at r)) (stops r) ∙ ap (answering_after k token None) ends
              ∙ if_then (fits close_brace token) (Some (k rest.rules)) None (is-fits close_brace token is1);
          rest = subst (λ v. Rest (k rest.rules) v tree) (sym (tail_is all)) rest.rest;
        }
    by (q ∷ qs) all (onward {next = inner} g more) = record {
      next = answering inner k;
      is = ap (λ v. answering_after k token v (rules_at r)) (rule_forth r q token inner (subst (IsPiece token) (head_is all) is) g);
      rest = record {
        pieces = qs;
        end = rest.end;
        rules = rest.rules;
        behind = rest.behind;
        all = tail_is all;
        goes = more;
        ends = rest.ends;
        rest = rest.rest;
      };
    }
forth (statements facts before) token p ps tree is r = by r.more refl
  where
    by : (more : List Statement) → r.more ≡ more → Follows (step (statements facts before) token) ps tree
    by [] e = absurd (let all : p ∷ ps ≡ [] = r.all ∙ ap (flat_map statement_pieces) e in cc)
    by (s ∷ more) e =
        let each = subst (All IsStatement) e r.each in
        statement_forth (with_statement facts before) tree token p ps s (flat_map statement_pieces more) is
        (r.all ∙ ap (flat_map statement_pieces) e) (All-head IsStatement s more each)
        (record {
          more = more;
          all = refl;
          each = All-tail IsStatement s more each;
          is = r.is ∙ ap (λ v. record { facts = facts; statements = before ++ v }) e
              ∙ ap (λ v. record { facts = facts; statements = v }) (sym (append_assoc before (s ∷ []) more));
        })
forth (in_newer version s) token p ps tree is r = by (λ q qs is' rest. forth s (seen version token) q qs tree is' rest) r.behind refl
  where
    by : ((q : Piece) (qs : List Piece) → IsPiece (seen version token) q → Rest s (q ∷ qs) tree → Follows (step s (seen version token)) qs tree)
        → (qs : List Piece) → r.behind ≡ qs → Follows (step (in_newer version s) token) ps tree
    by deeper [] e = absurd (let all : p ∷ ps ≡ [] = r.all ∙ ap (map (newer version)) e in cc)
    by deeper (q ∷ qs) e =
        let all : p ∷ ps ≡ newer version q ∷ map (newer version) qs = r.all ∙ ap (map (newer version)) e in
        let f = deeper q qs (subst (IsPiece token) (head_is all) is) (subst (λ v. Rest s v tree) e r.rest) in
        record { next = in_newer version f.next; is = ap (option_map (in_newer version)) f.is; rest = record { behind = qs; all = tail_is all; rest = f.rest } }
