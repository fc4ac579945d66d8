-- Tokens read one after another, and the sentences that they are.
use Rattle.std.proofs.Common.{◌≡◌, ℕ, zero, suc, ◌+◌, inl, inr, Bool, true, false, List, [], ◌∷◌, ◌++◌, map, refl, sym, ap, subst, ◌∙◌, arith}
use Rattle.std.specs.Prelude.{None, Some, All, codes, replicate}
use Rattle.std.specs.List.{flat_map}
use Rattle.std.proofs.lemmas.List.{append-nil}
use Rattle.std.proofs.lemmas.List.Elements.{All-nil}
use Rattle.sg_rules.specs.sg_lex.Lexeme.{Lexeme, Spelling as Named}
use Rattle.sg_rules.specs.sg_lex.Sentences.{Begins, ArePieces}
use Rattle.sg_rules.proofs.sg_lex.Automata.{Runs}
use Rattle.sg_rules.proofs.sg_lex.Answers.{Reached, ReadsJust}
use Rattle.sg_rules.specs.declared.error.ParseError.{ParseError}
use Rattle.sg_rules.specs.declared.version.Newer.{Newer}
use Rattle.sg_rules.specs.declared.version.Newer.TheVariants.{Second, Third}
use Rattle.sg_parse.specs.declared.tree.Facts.{Facts}
use Rattle.sg_parse.specs.declared.tree.Statement.{Statement}
use Rattle.sg_parse.specs.declared.tree.Tree.{Tree}
use Rattle.sg_parse.specs.declared.words.Sort.{Sort}
use Rattle.sg_parse.specs.declared.words.Sort.TheVariants.{Name, Form, Parents, Closing, Flag}
use Rattle.sg_parse.specs.Grammar.Pieces.{Piece, word, mark, name, number, version_number, newer, rule, IsPiece}
use Rattle.sg_parse.specs.Grammar.Sentence.{recovery_word, facts_pieces, tree_pieces, statement_pieces, ret_pieces, IsStatement, IsSentence}
use Rattle.sg_parse.specs.Grammar.Inside.Forms.{star, comma, close_brace, close_bracket, open_brace, equals, semicolon, more_fields, more_params, fact_pieces, head_pieces, last_pieces, of_version, IsHead, IsWellFormed}
use Rattle.sg_parse.specs.Grammar.Inside.States.{State, dead, due, fork, want, want_number, versioned, names, stars, either, listed, fielded, answering, statements, in_newer, fact, head_end, first_end, newer_end, newer_rest, head0, head1, head2, head3, head4, head5, head6, start, tree_at, trees}
use Rattle.sg_parse.proofs.Grammar.Basics.{word-fits_word}
use Rattle.sg_parse.proofs.Grammar.Rests.{Rest, front_of, last_of}
use Rattle.sg_parse.proofs.Grammar.Steps.{back, forth}
use Rattle.sg_parse.proofs.Grammar.Alive.{Alive, completed, alive_after, start_alive}

-- ---- at the end

pub done_back : (s : State) (tree : Tree) → tree_at s ≡ Some tree → Rest s [] tree
unfolding tree_at
done_back dead tree e = absurd cc
done_back (due p s) tree e = absurd cc
done_back (fork what s other) tree e = inr (tt, done_back other tree e)
done_back (want sort k) tree e = absurd cc
done_back (want_number k) tree e = absurd cc
done_back (versioned two three) tree e = absurd cc
done_back (names front last k) tree e =
    record { more = []; count = 0; behind = []; all = refl; off_star = tt; off_name = λ _. tt; rest = done_back (k front last 0) tree e }
done_back (stars front last n k) tree e =
    record {
      count = 0;
      behind = [];
      all = refl;
      off_star = tt;
      rest = subst (λ v. Rest (k front last v) [] tree) (let f : n ≡ n + 0 = omega arith in f) (done_back (k front last n) tree e);
    }
done_back (either k s) tree e = inr (tt, done_back s tree e)
done_back (listed params k) tree e = absurd cc
done_back (fielded fields k) tree e = absurd cc
done_back (answering r k) tree e = absurd cc
done_back (statements facts before) tree e =
    record {
      more = [];
      all = refl;
      each = All-nil IsStatement;
      is = (let f : record { facts = facts; statements = before } ≡ tree = cc in sym f) ∙ ap (λ v. record { facts = facts; statements = v }) (sym (append-nil before));
    }
done_back (in_newer version s) tree e = record { behind = []; all = refl; rest = done_back s tree e }

cons_some : {X : Type 0} (Y : Type 0) (xs ys : List X) (y : X) → [] ≡ xs ++ (y ∷ ys) → Y
cons_some Y [] ys y e = absurd cc
cons_some Y (x ∷ xs) ys y e = absurd cc

no_front : {X : Type 0} (xs ys : List X) → [] ≡ xs ++ ys → ([] ≡ xs) × ([] ≡ ys)
no_front [] ys e = (refl, e)
no_front (x ∷ xs) ys e = absurd cc

no_map : (xs : List Named) → [] ≡ map (name Name) xs → xs ≡ []
no_map [] e = refl
no_map (x ∷ xs) e = absurd cc

no_pieces : (version : Newer) (ps : List Piece) → [] ≡ map (newer version) ps → ps ≡ []
no_pieces version [] e = refl
no_pieces version (p ∷ ps) e = absurd cc

no_copies : (n : ℕ) → [] ≡ replicate n star → n ≡ 0
no_copies zero e = refl
no_copies (suc n) e = absurd cc

pub done_forth : (s : State) (tree : Tree) → Rest s [] tree → tree_at s ≡ Some tree
unfolding tree_at
done_forth dead tree r = absurd r
done_forth (due p s) tree r = absurd (let e : [] ≡ p ∷ r.behind = r.all in cc)
done_forth (fork what s other) tree r =
    elim r [
      | inl f ↦ absurd (let e : [] ≡ word what ∷ f.behind = f.all in cc)
      | inr f ↦ done_forth other tree f.1
    ]
done_forth (want sort k) tree r = absurd (let e : [] ≡ name sort r.value ∷ r.behind = r.all in cc)
done_forth (want_number k) tree r = absurd (let e : [] ≡ number r.value ∷ r.behind = r.all in cc)
done_forth (versioned two three) tree r =
    elim r [
      | inl f ↦ absurd (let e : [] ≡ version_number Second ∷ f.behind = f.all in cc)
      | inr f ↦ absurd (let e : [] ≡ version_number Third ∷ f.behind = f.all in cc)
    ]
done_forth (names front last k) tree r =
    let a = no_front (map (name Name) r.more) (replicate r.count star ++ r.behind) r.all in
    let b = no_front (replicate r.count star) r.behind a.1 in
    done_forth (k front last 0) tree
    (subst (λ v. Rest (k front last 0) v tree) (sym b.1)
    (subst (λ v. Rest (k front last v) r.behind tree) (no_copies r.count b.0)
    (subst (λ v. Rest (k (front_of front last v) (last_of last v) r.count) r.behind tree) (no_map r.more a.0) r.rest)))
done_forth (stars front last n k) tree r =
    let b = no_front (replicate r.count star) r.behind r.all in
    let c = no_copies r.count b.0 in
    done_forth (k front last n) tree
    (subst (λ v. Rest (k front last n) v tree) (sym b.1)
    (subst (λ v. Rest (k front last v) r.behind tree) (let f : n + r.count ≡ n = omega arith in f) r.rest))
done_forth (either k s) tree r =
    elim r [
      | inl f ↦ absurd (let e : [] ≡ name Form f.value ∷ f.behind = f.all in cc)
      | inr f ↦ done_forth s tree f.1
    ]
done_forth (listed params k) tree r = cons_some (None ≡ Some tree) (more_params r.more) r.behind close_bracket r.all
done_forth (fielded fields k) tree r = cons_some (None ≡ Some tree) (more_fields r.more) r.behind close_bracket r.all
done_forth (answering rules k) tree r = cons_some (None ≡ Some tree) (map rule r.pieces) r.behind close_brace r.all
done_forth (statements facts before) tree r =
    let e = no_statements r.more r.all in
    ap Some (sym (r.is ∙ ap (λ v. record { facts = facts; statements = before ++ v }) e ∙ ap (λ v. record { facts = facts; statements = v }) (append-nil before)))
  where
    no_statements : (xs : List Statement) → [] ≡ flat_map statement_pieces xs → xs ≡ []
    no_statements [] e = refl
    no_statements (x ∷ xs) e = absurd (some_piece x (no_front (statement_pieces x) (flat_map statement_pieces xs) e).0)
      where
        some_piece : (x : Statement) → [] ≡ statement_pieces x → ⊥
        some_piece (Statement.One w fun) e = cc
        some_piece (Statement.Two w first second) e = cc
        some_piece (Statement.Proto ret n params) e = cons_some ⊥ (ret_pieces ret) _ _ e
        some_piece (Statement.External fun) e = cc
        some_piece (Statement.Most field most) e = cc
        some_piece (Statement.Unique fields) e = cc
        some_piece (Statement.Answer fun rules) e = cc
done_forth (in_newer version s) tree r = done_forth s tree (subst (λ v. Rest s v tree) (no_pieces version r.behind r.all) r.rest)

-- ---- tokens and pieces

-- the pieces that tokens are, where reading them leads to a state
pub record Spelling (s : State) (tokens : List Lexeme) (ps : List Piece) (tree : Tree) : Type 0 where
  pub pieces : List Piece
  pub are : ArePieces IsPiece tokens pieces
  pub rest : Rest s (pieces ++ ps) tree

pub spelling : (s end : State) (tokens : List Lexeme) (ps : List Piece) (tree : Tree) → Runs trees s tokens end → Rest end ps tree → Spelling s tokens ps tree
spelling s end [] ps tree h r = record { pieces = []; are = tt; rest = subst (λ v. Rest v ps tree) (sym h) r }
spelling s end (t ∷ ts) ps tree h r =
    let i = spelling h.0 end ts ps tree h.2 r in
    let c = back s t h.0 (i.pieces ++ ps) tree h.1 i.rest in
    record { pieces = c.piece ∷ i.pieces; are = (c.is, i.are); rest = c.rest }

-- reading the first of these tokens, and what the others have still to be
pub record Part (s : State) (tokens more : List Lexeme) (tree : Tree) : Type 0 where
  pub end : State
  pub pieces : List Piece
  pub runs : Runs trees s tokens end
  pub are : ArePieces IsPiece more pieces
  pub rest : Rest end pieces tree

pub part : (s : State) (tokens more : List Lexeme) (ps : List Piece) (tree : Tree) → ArePieces IsPiece (tokens ++ more) ps → Rest s ps tree → Part s tokens more tree
part s [] more ps tree a r = record { end = s; pieces = ps; runs = refl; are = a; rest = r }
part s (t ∷ ts) more [] tree a r = absurd a
part s (t ∷ ts) more (p ∷ ps) tree a r =
    let f = forth s t p ps tree a.0 r in
    let i = part f.next ts more ps tree a.1 f.rest in
    record { end = i.end; pieces = i.pieces; runs = (f.next, f.is, i.runs); are = i.are; rest = i.rest }

-- ---- from the start

-- a fact of the head, and what follows it
record FactRest (P : Named → List Piece → Type 0) (what : List ℕ) (sort : Sort) (end : Piece) (ps : List Piece) : Type 0 where
  value : Named
  behind : List Piece
  all : ps ≡ fact_pieces what sort value end behind
  rest : P value behind

fact_back : (what : List ℕ) (sort : Sort) (end : Piece) (go : Named → State) (tree : Tree) (ps : List Piece) → Rest (fact what sort end go) ps tree
    → FactRest (λ n qs. Rest (go n) qs tree) what sort end ps
fact_back what sort end go tree ps r =
    let a = r.rest in let b = a.rest in let c = b.rest in
    record {
      value = b.value;
      behind = c.behind;
      all = r.all ∙ ap (λ v. word what ∷ v) (a.all ∙ ap (λ v. equals ∷ v) (b.all ∙ ap (λ v. name sort b.value ∷ v) c.all));
      rest = c.rest;
    }

fact_forth : (what : List ℕ) (sort : Sort) (end : Piece) (go : Named → State) (tree : Tree) (value : Named) (qs : List Piece) → Rest (go value) qs tree
    → Rest (fact what sort end go) (fact_pieces what sort value end qs) tree
fact_forth what sort end go tree value qs r =
    record {
      behind = equals ∷ name sort value ∷ end ∷ qs;
      all = refl;
      rest = record {
        behind = name sort value ∷ end ∷ qs;
        all = refl;
        rest = record {
          value = value;
          behind = end ∷ qs;
          all = refl;
          rest = record { behind = qs; all = refl; rest = r };
        };
      };
    }

-- the facts of the head, and what follows the value of the last
record HeadRest (P : (a b c d e f g : Named) → List Piece → Type 0) (ps : List Piece) : Type 0 where
  a : Named
  b : Named
  c : Named
  d : Named
  e : Named
  f : Named
  g : Named
  behind : List Piece
  all : ps ≡ head_pieces a b c d e f g behind
  rest : P a b c d e f g behind

head_back : (end : (a b c d e f g : Named) → State) (tree : Tree) (ps : List Piece) → Rest (head0 end) ps tree → HeadRest (λ a b c d e f g qs. Rest (end a b c d e f g) qs tree) ps
head_back end tree ps r =
    let a = fact_back (codes "service") Name comma (head1 end) tree ps r in
    let b = fact_back (codes "desc_has_parent") Parents comma (head2 end a.value) tree a.behind a.rest in
    let c = fact_back (codes "desc_close") Closing comma (head3 end a.value b.value) tree b.behind b.rest in
    let d = fact_back (codes "desc_is_global") Flag comma (head4 end a.value b.value c.value) tree c.behind c.rest in
    let e = fact_back (codes "desc_block") Flag comma (head5 end a.value b.value c.value d.value) tree d.behind d.rest in
    let f = fact_back (codes "desc_has_data") Flag comma (head6 end a.value b.value c.value d.value e.value) tree e.behind e.rest in
    let w = f.rest in let q = w.rest in let g = q.rest in
    record {
      a = a.value;
      b = b.value;
      c = c.value;
      d = d.value;
      e = e.value;
      f = f.value;
      g = g.value;
      behind = g.behind;
      all =
          a.all ∙ ap (fact_pieces (codes "service") Name a.value comma)
          (b.all ∙ ap (fact_pieces (codes "desc_has_parent") Parents b.value comma)
          (c.all ∙ ap (fact_pieces (codes "desc_close") Closing c.value comma)
          (d.all ∙ ap (fact_pieces (codes "desc_is_global") Flag d.value comma)
          (e.all ∙ ap (fact_pieces (codes "desc_block") Flag e.value comma)
          (f.all ∙ ap (fact_pieces (codes "desc_has_data") Flag f.value comma)
          (w.all ∙ ap (λ v. word (codes "resc_has_data") ∷ v) (q.all ∙ ap (λ v. equals ∷ v) g.all)))))));
      rest = g.rest;
    }

head_forth : (end : (a b c d e f g : Named) → State) (tree : Tree) (q : Facts) (last : List Piece)
    → Rest (end q.service q.parent q.close q.global q.block q.has_data q.resc_data) last tree
    → Rest (head0 end) (head_pieces q.service q.parent q.close q.global q.block q.has_data q.resc_data last) tree
head_forth end tree q last r8 =
    let p7 = word (codes "resc_has_data") ∷ equals ∷ name Flag q.resc_data ∷ last in
    let p6 = fact_pieces (codes "desc_has_data") Flag q.has_data comma p7 in
    let p5 = fact_pieces (codes "desc_block") Flag q.block comma p6 in
    let p4 = fact_pieces (codes "desc_is_global") Flag q.global comma p5 in
    let p3 = fact_pieces (codes "desc_close") Closing q.close comma p4 in
    let p2 = fact_pieces (codes "desc_has_parent") Parents q.parent comma p3 in
    let r7 : Rest (head6 end q.service q.parent q.close q.global q.block q.has_data) p7 tree = record {
      behind = equals ∷ name Flag q.resc_data ∷ last;
      all = refl;
      rest = record {
        behind = name Flag q.resc_data ∷ last;
        all = refl;
        rest = record { value = q.resc_data; behind = last; all = refl; rest = r8 };
      };
    } in
    let r6 = fact_forth (codes "desc_has_data") Flag comma (head6 end q.service q.parent q.close q.global q.block) tree q.has_data p7 r7 in
    let r5 = fact_forth (codes "desc_block") Flag comma (head5 end q.service q.parent q.close q.global) tree q.block p6 r6 in
    let r4 = fact_forth (codes "desc_is_global") Flag comma (head4 end q.service q.parent q.close) tree q.global p5 r5 in
    let r3 = fact_forth (codes "desc_close") Closing comma (head3 end q.service q.parent) tree q.close p4 r4 in
    let r2 = fact_forth (codes "desc_has_parent") Parents comma (head2 end q.service) tree q.parent p3 r3 in
    fact_forth (codes "service") Name comma (head1 end) tree q.service p2 r2

-- the end of the head, and the statements
record LastRest (facts : Facts) (ps : List Piece) (tree : Tree) : Type 0 where
  statements : List Statement
  all : ps ≡ last_pieces (flat_map statement_pieces statements)
  each : All IsStatement statements
  is : tree ≡ record { facts = facts; statements = statements }

abbrev facts_by : (version : ℕ) (eager : Bool) (a b c d e f g : Named) → Facts
facts_by version eager a b c d e f g = record { version = version; service = a; parent = b; close = c; global = d; block = e; has_data = f; resc_data = g; eager = eager }

end_back : (version : ℕ) (eager : Bool) (a b c d e f g : Named) (tree : Tree) (ps : List Piece) → Rest (head_end version eager a b c d e f g) ps tree
    → LastRest (facts_by version eager a b c d e f g) ps tree
end_back version eager a b c d e f g tree ps r =
    let s = r.rest.rest in
    record { statements = s.more; all = r.all ∙ ap (λ v. mark (codes "}") ∷ v) (r.rest.all ∙ ap (λ v. semicolon ∷ v) s.all); each = s.each; is = s.is }

end_forth : (facts : Facts) (tree : Tree) → tree.facts ≡ facts → All IsStatement tree.statements
    → Rest (due (mark (codes "}")) (due semicolon (statements facts []))) (last_pieces (flat_map statement_pieces tree.statements)) tree
end_forth facts tree is h = record {
  behind = semicolon ∷ flat_map statement_pieces tree.statements;
  all = refl;
  rest = record {
    behind = flat_map statement_pieces tree.statements;
    all = refl;
    rest = record { more = tree.statements; all = refl; each = h; is = ap (λ f. record { facts = f; statements = tree.statements }) is };
  };
}

-- ---- a text of version 1

first_back : (tree : Tree) (ps : List Piece) → Rest (head0 first_end) ps tree
    → (ps ≡ of_version tree.facts.version (facts_pieces tree.facts (flat_map statement_pieces tree.statements))) × IsWellFormed tree
first_back tree ps r =
    let h = head_back first_end tree ps r in
    let s = end_back 1 false h.a h.b h.c h.d h.e h.f h.g tree h.behind h.rest in (
      h.all ∙ ap (head_pieces h.a h.b h.c h.d h.e h.f h.g) s.all
          ∙ ap (λ (t : Tree). of_version t.facts.version (facts_pieces t.facts (flat_map statement_pieces t.statements))) (sym s.is),
      subst IsWellFormed (sym s.is) (inl (refl, refl), s.each),
    )

first_forth : (tree : Tree) → tree.facts.version ≡ 1 → tree.facts.eager ≡ false → All IsStatement tree.statements
    → Rest (head0 first_end) (facts_pieces (record tree.facts { version = 1 }) (flat_map statement_pieces tree.statements)) tree
first_forth tree one off h =
    let q = tree.facts in
    head_forth first_end tree q (last_pieces (flat_map statement_pieces tree.statements))
    (end_forth (facts_by 1 false q.service q.parent q.close q.global q.block q.has_data q.resc_data) tree
    (ap (λ n. record q { version = n }) one ∙ ap (λ b. record q { version = 1; eager = b }) off) h)

-- ---- a text of a version after the first

-- the facts and statements of a tree, as the head of its version is read
record NewerBack (version : ℕ) (tree : Tree) (ps : List Piece) : Type 0 where
  all : ps ≡ facts_pieces (record tree.facts { version = version }) (flat_map statement_pieces tree.statements)
  is : tree.facts.version ≡ version
  each : All IsStatement tree.statements

-- the end of the head, where the version is after the first
record NewerEnd (version : ℕ) (a b c d e f g : Named) (tree : Tree) (ps : List Piece) : Type 0 where
  all : ps ≡ comma ∷ word (codes "desc_recover") ∷ equals ∷ word (recovery_word tree.facts.eager) ∷ last_pieces (flat_map statement_pieces tree.statements)
  is : tree.facts ≡ facts_by version tree.facts.eager a b c d e f g
  each : All IsStatement tree.statements

newer_end_back : (version : ℕ) (a b c d e f g : Named) (tree : Tree) (ps : List Piece) → Rest (newer_end version a b c d e f g) ps tree → NewerEnd version a b c d e f g tree ps
newer_end_back version a b c d e f g tree ps r =
    let w = r.rest in let q = w.rest in
    let front : (eager : Bool) (more : List Piece) → q.behind ≡ word (recovery_word eager) ∷ more
    → ps ≡ comma ∷ word (codes "desc_recover") ∷ equals ∷ word (recovery_word eager) ∷ more
    = λ eager more is. r.all ∙ ap (λ v. comma ∷ v) (w.all ∙ ap (λ v. word (codes "desc_recover") ∷ v) (q.all ∙ ap (λ v. equals ∷ v) is)) in
    elim q.rest [
      | inl t ↦ by true (end_back version true a b c d e f g tree t.behind t.rest) (front true t.behind t.all)
      | inr t ↦ by false (end_back version false a b c d e f g tree t.1.behind t.1.rest) (front false t.1.behind t.1.all)
    ]
  where
    by : (eager : Bool) {behind : List Piece} → LastRest (facts_by version eager a b c d e f g) behind tree → ps ≡ comma ∷ word (codes "desc_recover") ∷ equals ∷ word (recovery_word eager) ∷ behind
        → NewerEnd version a b c d e f g tree ps
    by eager s all = record {
      all = all ∙ ap (λ v. comma ∷ word (codes "desc_recover") ∷ equals ∷ word (recovery_word eager) ∷ v) s.all
          ∙ ap (λ (t : Tree). comma ∷ word (codes "desc_recover") ∷ equals ∷ word (recovery_word t.facts.eager) ∷ last_pieces (flat_map statement_pieces t.statements)) (sym s.is);
      is = ap (λ (t : Tree). t.facts) s.is ∙ ap (λ (t : Tree). facts_by version t.facts.eager a b c d e f g) (sym s.is);
      each = subst (λ (t : Tree). All IsStatement t.statements) (sym s.is) s.each;
    }

-- the facts of a text of a version after the first, with what follows them
abbrev newer_pieces : Facts → List Piece → List Piece
newer_pieces f more =
    head_pieces f.service f.parent f.close f.global f.block f.has_data f.resc_data
    (comma ∷ word (codes "desc_recover") ∷ equals ∷ word (recovery_word f.eager) ∷ last_pieces more)

newer_back : (version : ℕ) (tree : Tree) (ps : List Piece) → ((more : List Piece) → facts_pieces (record tree.facts { version = version }) more ≡ newer_pieces tree.facts more)
    → Rest (head0 (newer_end version)) ps tree → NewerBack version tree ps
newer_back version tree ps pieces r =
    let h = head_back (newer_end version) tree ps r in
    let s = newer_end_back version h.a h.b h.c h.d h.e h.f h.g tree h.behind h.rest in
    record {
      all = h.all ∙ ap (head_pieces h.a h.b h.c h.d h.e h.f h.g) s.all
          ∙ ap (λ (f : Facts). head_pieces f.service f.parent f.close f.global f.block f.has_data f.resc_data
          (comma ∷ word (codes "desc_recover") ∷ equals ∷ word (recovery_word tree.facts.eager) ∷ last_pieces (flat_map statement_pieces tree.statements))) (sym s.is)
          ∙ sym (pieces (flat_map statement_pieces tree.statements));
      is = ap (λ (f : Facts). f.version) s.is;
      each = s.each;
    }

newer_end_forth : (version : ℕ) (tree : Tree) → tree.facts.version ≡ version → All IsStatement tree.statements
    → (let q = tree.facts in Rest (newer_end version q.service q.parent q.close q.global q.block q.has_data q.resc_data)
    (comma ∷ word (codes "desc_recover") ∷ equals ∷ word (recovery_word q.eager) ∷ last_pieces (flat_map statement_pieces tree.statements)) tree)
newer_end_forth version tree same h = record {
  behind = word (codes "desc_recover") ∷ equals ∷ word (recovery_word tree.facts.eager) ∷ last_pieces (flat_map statement_pieces tree.statements);
  all = refl;
  rest = record {
    behind = equals ∷ word (recovery_word tree.facts.eager) ∷ last_pieces (flat_map statement_pieces tree.statements);
    all = refl;
    rest = record {
      behind = word (recovery_word tree.facts.eager) ∷ last_pieces (flat_map statement_pieces tree.statements);
      all = refl;
      rest = by tree.facts.eager refl;
    };
  };
}
  where
    its : (eager : Bool) → tree.facts.eager ≡ eager → tree.facts ≡ record tree.facts { version = version; eager = eager }
    its eager is = ap (λ n. record tree.facts { version = n }) same ∙ ap (λ b. record tree.facts { version = version; eager = b }) is

    by : (eager : Bool) → tree.facts.eager ≡ eager
        → (let q = tree.facts in Rest (fork (codes "eager") (head_end version true q.service q.parent q.close q.global q.block q.has_data q.resc_data)
        (due (word (codes "demand")) (head_end version false q.service q.parent q.close q.global q.block q.has_data q.resc_data)))
        (word (recovery_word eager) ∷ last_pieces (flat_map statement_pieces tree.statements)) tree)
    by true is = inl (record { behind = last_pieces (flat_map statement_pieces tree.statements); all = refl; rest = end_forth (record tree.facts { version = version; eager = true }) tree (its true is) h })
    by false is = inr (
      λ token p. word-fits_word (codes "demand") (codes "eager") token p refl,
      record { behind = last_pieces (flat_map statement_pieces tree.statements); all = refl; rest = end_forth (record tree.facts { version = version; eager = false }) tree (its false is) h },
    )

newer_forth : (version : ℕ) (tree : Tree) → ((more : List Piece) → facts_pieces (record tree.facts { version = version }) more ≡ newer_pieces tree.facts more)
    → tree.facts.version ≡ version → All IsStatement tree.statements
    → Rest (head0 (newer_end version)) (facts_pieces (record tree.facts { version = version }) (flat_map statement_pieces tree.statements)) tree
newer_forth version tree pieces same h =
    subst (λ v. Rest (head0 (newer_end version)) v tree) (sym (pieces (flat_map statement_pieces tree.statements)))
    (head_forth (newer_end version) tree tree.facts
    (comma ∷ word (codes "desc_recover") ∷ equals ∷ word (recovery_word tree.facts.eager) ∷ last_pieces (flat_map statement_pieces tree.statements))
    (newer_end_forth version tree same h))

-- ---- a text

-- what stands after the first brace, where the text is of a version
abbrev after_brace : Tree → ℕ → List Piece
after_brace tree n = of_version n (facts_pieces (record tree.facts { version = n }) (flat_map statement_pieces tree.statements))

-- the facts and the statements of a tree, where the text is of a version
abbrev whole_pieces : Tree → ℕ → List Piece
whole_pieces tree n = facts_pieces (record tree.facts { version = n }) (flat_map statement_pieces tree.statements)

start_back : (tree : Tree) (ps : List Piece) → Rest start ps tree → (ps ≡ tree_pieces tree) × IsWellFormed tree
start_back tree ps r =
    let o = r.rest.rest in
    let front : (more : List Piece) → o.behind ≡ more → ps ≡ word (codes "service_global_info") ∷ equals ∷ open_brace ∷ more
    = λ more is. r.all ∙ ap (λ v. word (codes "service_global_info") ∷ v) (r.rest.all ∙ ap (λ v. equals ∷ v) (o.all ∙ ap (λ v. open_brace ∷ v) is)) in
    elim o.rest [
      | inl t ↦
          let q = t.rest in
          let said : (more : List Piece) → q.behind ≡ more → o.behind ≡ word (codes "version") ∷ equals ∷ more
          = λ more is. t.all ∙ ap (λ v. word (codes "version") ∷ v) (q.all ∙ ap (λ v. equals ∷ v) is) in
          elim q.rest [
            | inl n ↦
                let m = n.rest in
                let b = newer_back 2 tree m.rest.behind (λ more. refl) m.rest.rest in (
                  front _ (said _ (n.all ∙ ap (λ v. version_number Second ∷ v) (m.all ∙ ap (λ v. comma ∷ v) (m.rest.all ∙ ap (map (newer Second)) b.all))) ∙ ap (after_brace tree) (sym b.is)),
                  (inr (inl b.is), b.each),
                )
            | inr n ↦
                let m = n.rest in let u = m.rest in let v = u.rest in
                let b = newer_back 3 tree v.behind (λ more. refl) v.rest in (
                  front _ (said _ (n.all ∙ ap (λ w. version_number Third ∷ w) (m.all ∙ ap (λ w. comma ∷ w) (u.all ∙ ap (map (newer Second)) (v.all ∙ ap (map (newer Third)) b.all))))
                      ∙ ap (after_brace tree) (sym b.is)),
                  (inr (inr b.is), b.each),
                )
          ]
      | inr t ↦ let both = first_back tree o.behind t.1 in (front _ both.0, both.1)
    ]

start_forth : (tree : Tree) → IsWellFormed tree → Rest start (tree_pieces tree) tree
start_forth tree h = record {
  behind = equals ∷ open_brace ∷ after_brace tree tree.facts.version;
  all = refl;
  rest = record {
    behind = open_brace ∷ after_brace tree tree.facts.version;
    all = refl;
    rest = record { behind = after_brace tree tree.facts.version; all = refl; rest = by h.0 };
  };
}
  where
    by : IsHead tree.facts → Rest (fork (codes "version") (newer_rest (head0 (newer_end 2)) (head0 (newer_end 3))) (head0 first_end)) (after_brace tree tree.facts.version) tree
    by (inl first) =
        subst (λ n. Rest (fork (codes "version") (newer_rest (head0 (newer_end 2)) (head0 (newer_end 3))) (head0 first_end)) (after_brace tree n) tree) (sym first.0)
        (inr (λ token p. word-fits_word (codes "service") (codes "version") token p refl, first_forth tree first.0 first.1 h.1))
    by (inr (inl second)) =
        let ps = whole_pieces tree 2 in
        subst (λ n. Rest (fork (codes "version") (newer_rest (head0 (newer_end 2)) (head0 (newer_end 3))) (head0 first_end)) (after_brace tree n) tree) (sym second)
        (inl (record {
          behind = equals ∷ version_number Second ∷ comma ∷ map (newer Second) ps;
          all = refl;
          rest = record {
            behind = version_number Second ∷ comma ∷ map (newer Second) ps;
            all = refl;
            rest = inl (record {
              behind = comma ∷ map (newer Second) ps;
              all = refl;
              rest = record {
                behind = map (newer Second) ps;
                all = refl;
                rest = record { behind = ps; all = refl; rest = newer_forth 2 tree (λ more. refl) second h.1 };
              };
            });
          };
        }))
    by (inr (inr third)) =
        let ps = whole_pieces tree 3 in
        subst (λ n. Rest (fork (codes "version") (newer_rest (head0 (newer_end 2)) (head0 (newer_end 3))) (head0 first_end)) (after_brace tree n) tree) (sym third)
        (inl (record {
          behind = equals ∷ version_number Third ∷ comma ∷ map (newer Second) (map (newer Third) ps);
          all = refl;
          rest = record {
            behind = version_number Third ∷ comma ∷ map (newer Second) (map (newer Third) ps);
            all = refl;
            rest = inr (record {
              behind = comma ∷ map (newer Second) (map (newer Third) ps);
              all = refl;
              rest = record {
                behind = map (newer Second) (map (newer Third) ps);
                all = refl;
                rest = record {
                  behind = map (newer Third) ps;
                  all = refl;
                  rest = record { behind = ps; all = refl; rest = newer_forth 3 tree (λ more. refl) third h.1 };
                };
              };
            });
          };
        }))

-- ---- sentences

pub reached : (tokens : List Lexeme) (tree : Tree) → IsSentence tokens tree → Reached State Tree ParseError trees tokens tree
reached tokens tree h =
    let p = part start tokens [] (tree_pieces tree) tree (subst (λ v. ArePieces IsPiece v (tree_pieces tree)) (sym (append-nil tokens)) h.pieces) (start_forth tree h.well_formed) in
    record { end = p.end; runs = p.runs; is = done_forth p.end tree (nothing p.end p.pieces p.are p.rest) }
  where
    nothing : (end : State) (ps : List Piece) → ArePieces IsPiece [] ps → Rest end ps tree → Rest end [] tree
    nothing end [] a r = r
    nothing end (p ∷ ps) a r = absurd a

pub sentence_of : (tokens : List Lexeme) (tree : Tree) (end : State) → Runs trees start tokens end → tree_at end ≡ Some tree → IsSentence tokens tree
sentence_of tokens tree end h e =
    let s = spelling start end tokens [] tree h (done_back end tree e) in
    let t = start_back tree (s.pieces ++ []) s.rest in
    record { pieces = subst (ArePieces IsPiece tokens) (sym (append-nil s.pieces) ∙ t.0) s.are; well_formed = t.1 }

alive_end : (s end : State) (tokens : List Lexeme) → Alive false s → Runs trees s tokens end → Alive false end
alive_end s end [] a h = subst (Alive false) h a
alive_end s end (t ∷ ts) a h = alive_end h.0 end ts (alive_after false s t h.0 a h.1) h.2

are-append : (xs ys : List Lexeme) (ps qs : List Piece) → ArePieces IsPiece xs ps → ArePieces IsPiece ys qs → ArePieces IsPiece (xs ++ ys) (ps ++ qs)
are-append [] ys [] qs a b = b
are-append [] ys (p ∷ ps) qs a b = absurd a
are-append (x ∷ xs) ys [] qs a b = absurd a
are-append (x ∷ xs) ys (p ∷ ps) qs a b = (a.0, are-append xs ys ps qs a.1 b)

-- what is read begins a sentence
pub begins_of : (tokens : List Lexeme) (end : State) → Runs trees start tokens end → Begins IsSentence tokens
begins_of tokens end h =
    let c = completed end (alive_end start end tokens start_alive h) in
    let s = spelling start end tokens c.pieces c.tree h c.rest in
    let t = start_back c.tree (s.pieces ++ c.pieces) s.rest in
    (c.tokens, c.tree, record { pieces = subst (ArePieces IsPiece (tokens ++ c.tokens)) t.0 (are-append tokens c.tokens s.pieces c.pieces s.are c.are); well_formed = t.1 })

-- the automaton reads just the sentences
pub just : ReadsJust State Tree ParseError trees IsSentence
just = record { reached = reached; sentence_of = sentence_of; begins_of = begins_of }
