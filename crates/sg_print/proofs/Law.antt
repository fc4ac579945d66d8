-- A printed tree reads back.
use Rattle.std.proofs.Common.{ℕ, suc, ◌≡◌, true, false, if◌then◌else◌, List, [], ◌∷◌, Ok, length, map, refl, sym, ap, ◌∙◌, subst, arith, inl, inr}
use Rattle.std.specs.List.{flat_map}
use Rattle.std.specs.Prelude.{◌==◌}
use Rattle.sg_parse.specs.sg_lex.declared.token.TokenKind.{TokenKind}
use Rattle.sg_parse.specs.sg_lex.declared.token.TokenKind.TheVariants.{Word, Number, Mark}
use Rattle.sg_parse.specs.sg_lex.Lexeme.{Lexeme}
use Rattle.sg_parse.specs.sg_lex.Table.{IsToken}
use Rattle.sg_parse.specs.sg_lex.Tokens.{Answer, answers_of}
use Rattle.sg_parse.specs.sg_lex.Sentences.{ArePieces}
use Rattle.sg_parse.specs.sg_lex.Inside.Ahead.{answered}
use Rattle.sg_parse.specs.sg_lex.Reading.{IsReading, ends, passes, gives, faults}
use Rattle.sg_parse.proofs.sg_lex.Readings.{reads}
use Rattle.sg_parse.proofs.sg_lex.Answers.{Accepts}
use Rattle.sg_parse.specs.sg_rules.declared.version.Newer.TheVariants.{Second, Third}
use Rattle.sg_parse.specs.sg_rules.Versions.{is_kept, seen}
use Rattle.sg_parse.specs.sg_rules.Inside.Seen.{turned}
use Rattle.sg_parse.specs.sg_rules.Grammar.Pieces.{RulePiece, fixed, word_at, name as name_in_rule, number as number_in_rule, IsRulePiece}
use Rattle.sg_parse.specs.declared.tree.Tree.{Tree}
use Rattle.sg_parse.specs.Grammar.Pieces.{Piece, word, mark, name, number, version_number, kept, newer, rule, IsPiece}
use Rattle.sg_parse.specs.Grammar.Sentence.{statement_pieces, tree_pieces, IsSentence}
use Rattle.sg_parse.specs.Grammar.Inside.Forms.{last_pieces, IsHead, IsWellFormed}
use Rattle.sg_parse.specs.Grammar.Upgraded.{IsFree, upgraded}
use Rattle.sg_parse.proofs.Grammar.Basics.{by_test}
use Rattle.sg_print.specs.Printed.{printed}
use Rattle.sg_print.specs.PrintsBack.{PrintsBack}
use Rattle.sg_print.proofs.Heads.{shared_pieces, recovery_pieces}
use Rattle.sg_print.proofs.Levels.{Version, v1, v2, v3, seen_at, IsOwn, IsKept, Keeps, second_alone, third_alone, kept_kind, seen_own, seen_kept, seen_bytes, seen_number}
use Rattle.sg_print.proofs.Leads.{Leads, AreLike, IsProper, IsProperRule, AreProper}
use Rattle.sg_print.proofs.Free.{second_proper, statements_upgraded, upgraded_head}
use Rattle.sg_print.proofs.Texts.{printed_leads}
use Rattle.sg_print.proofs.Back.{AgainTree, tree_back}

-- what a lexer answers is tokens by the table
abbrev AreTokens : List Lexeme → Type 0
AreTokens [] = Unit {0}
AreTokens (t ∷ ts) = IsToken t.kind t.bytes × AreTokens ts

none_one : (a : Answer) (answers : List Answer) → [] ≡ a ∷ answers → ⊥
none_one a answers e = let long : 0 ≡ suc (length answers) = ap length e in omega arith

tokens_are : {at : ℕ} {text : List ℕ} {answers : List Answer} → IsReading at text answers → (tokens : List Lexeme) → answers ≡ answered tokens
    → AreTokens tokens
tokens_are (ends at) [] e = tt
tokens_are (ends at) (t ∷ ts) e = absurd (none_one (Ok t) (answered ts) e)
tokens_are (passes at gap behind answers g r) tokens e = tokens_are r tokens e
tokens_are (gives at kind bytes behind answers t most r) [] e =
    absurd (none_one (Ok (record { kind = kind; bytes = bytes; at = at })) answers (sym e))
tokens_are (gives at kind bytes behind answers t most r) (u ∷ us) e =
    let same : record { kind = kind; bytes = bytes; at = at } ≡ u = cc in
    let rest : answers ≡ answered us = cc in
    (subst (λ x. IsToken x.kind x.bytes) same t, tokens_are r us rest)
tokens_are (faults at text occupied none) [] e = absurd (cc)
tokens_are (faults at text occupied none) (u ∷ us) e = absurd (cc)

-- ---- tokens as texts of versions have them

mark_no_word : (kind : TokenKind) → kind ≡ Mark → kind ≡ Word → ⊥
mark_no_word kind m w = let e : Mark ≡ Word = sym m ∙ w in cc

-- a word in a text of version 2 is one in any text, and isn't the word that version 2 keeps
second_word : (t : Lexeme) → IsToken t.kind t.bytes → (seen Second t).kind ≡ Word → (t.kind ≡ Word) × (is_kept Second t.bytes ≡ false)
second_word t h e =
    by_test (is_kept Second t.bytes)
    (λ is.
    let mark_kind : (seen Second t).kind ≡ Mark = ap (λ (u : Lexeme). u.kind) (seen_kept Second t is) ∙ ap turned (kept_kind Second t.kind t.bytes is h) in
    absurd (mark_no_word (seen Second t).kind mark_kind e))
    (λ is. (sym (ap (λ (u : Lexeme). u.kind) (seen_own Second t is)) ∙ e, is))

-- and so in a text of version 3
third_word : (t : Lexeme) → IsToken t.kind t.bytes → (seen Third (seen Second t)).kind ≡ Word
    → (t.kind ≡ Word) × (is_kept Second t.bytes ≡ false) × (is_kept Third t.bytes ≡ false)
third_word t h e =
    by_test (is_kept Third t.bytes)
    (λ is.
    let first : (seen Second t).kind ≡ Word = ap (λ (u : Lexeme). u.kind) (seen_own Second t (third_alone t.bytes is)) ∙ kept_kind Third t.kind t.bytes is h in
    let mark_kind : (seen Third (seen Second t)).kind ≡ Mark = ap (λ (u : Lexeme). u.kind) (seen_kept Third (seen Second t) is) ∙ ap turned first in
    absurd (mark_no_word (seen Third (seen Second t)).kind mark_kind e))
    (λ is.
    let second = second_word t h (sym (ap (λ (u : Lexeme). u.kind) (seen_own Third (seen Second t) is)) ∙ e) in
    (second.0, second.1, is))

word_is_own : (b : Version) (t : Lexeme) → IsToken t.kind t.bytes → (seen_at b t).kind ≡ Word → (t.kind ≡ Word) × IsOwn b t.bytes
word_is_own v1 t h e = (e, tt)
word_is_own v2 t h e = second_word t h e
word_is_own v3 t h e = let w = third_word t h e in (w.0, (w.1, w.2))

-- a word that some version keeps is a mark only in a text of a version that keeps it
kept_is : (b : Version) (t : Lexeme) (bytes : List ℕ) → IsToken t.kind t.bytes → (seen_at b t).kind ≡ Mark → t.bytes ≡ bytes → IsKept bytes → Keeps b bytes
kept_is v1 t bytes h e g (inl k) = mark_no_word t.kind e (kept_kind Second t.kind t.bytes (subst (λ v. is_kept Second v ≡ true) (sym g) k) h)
kept_is v1 t bytes h e g (inr k) = mark_no_word t.kind e (kept_kind Third t.kind t.bytes (subst (λ v. is_kept Third v ≡ true) (sym g) k) h)
kept_is v2 t bytes h e g (inl k) = k
kept_is v2 t bytes h e g (inr k) =
    let third : is_kept Third t.bytes ≡ true = ap (is_kept Third) g ∙ k in
    let mark_kind : t.kind ≡ Mark = sym (ap (λ (u : Lexeme). u.kind) (seen_own Second t (third_alone t.bytes third))) ∙ e in
    absurd (mark_no_word t.kind mark_kind (kept_kind Third t.kind t.bytes third h))
kept_is v3 t bytes h e g (inl k) = inl (k, second_alone bytes k)
kept_is v3 t bytes h e g (inr k) = inr (third_alone bytes k, k)

-- ---- what the pieces of a sentence's tree are

word_of_bytes : (t : Lexeme) (bytes : List ℕ) → IsToken t.kind t.bytes → t.kind ≡ Word → t.bytes ≡ bytes → IsToken Word bytes
word_of_bytes t bytes h k e = subst (IsToken Word) e (subst (λ v. IsToken v t.bytes) k h)

number_of_bytes : (t : Lexeme) (bytes : List ℕ) → IsToken t.kind t.bytes → t.kind ≡ Number → t.bytes ≡ bytes → IsToken Number bytes
number_of_bytes t bytes h k e = subst (IsToken Number) e (subst (λ v. IsToken v t.bytes) k h)

-- the names of rules are words that aren't kept, and their numbers have digits
rule_proper : (b : Version) (t : Lexeme) (q : RulePiece) → IsToken t.kind t.bytes → IsRulePiece (seen_at b t) q → IsProperRule b q
rule_proper b t (fixed p) h l = tt
rule_proper b t (word_at keyword at) h l = tt
rule_proper b t (name_in_rule n) h l =
    let own = word_is_own b t h l.0 in
    let bytes : t.bytes ≡ n.bytes = sym (seen_bytes b t) ∙ l.1 in
    (word_of_bytes t n.bytes h own.0 bytes, l.3, subst (IsOwn b) bytes own.1)
rule_proper b t (number_in_rule n) h l = number_of_bytes t n.bytes h (seen_number b t l.0) (sym (seen_bytes b t) ∙ l.1)

-- the names of a sentence's tree are words of their sorts, and none is kept
piece_proper : (b : Version) (t : Lexeme) (p : Piece) → IsToken t.kind t.bytes → IsPiece (seen_at b t) p → IsProper b p
piece_proper b t (word bytes) h l = tt
piece_proper b t (mark byte) h l = tt
piece_proper b t (name sort n) h l =
    let own = word_is_own b t h l.0 in
    let bytes : t.bytes ≡ n.bytes = sym (seen_bytes b t) ∙ l.1 in
    (word_of_bytes t n.bytes h own.0 bytes, l.3, subst (IsOwn b) bytes own.1)
piece_proper b t (number n) h l = number_of_bytes t n.bytes h (seen_number b t l.0) (sym (seen_bytes b t) ∙ l.1)
piece_proper b t (version_number version) h l = tt
piece_proper b t (kept bytes) h l = kept_is b t bytes h l.0 (sym (seen_bytes b t) ∙ l.1)
piece_proper v1 t (newer Second p) h l = piece_proper v2 t p h l
piece_proper v1 t (newer Third p) h l = tt
piece_proper v2 t (newer Second p) h l = tt
piece_proper v2 t (newer Third p) h l = piece_proper v3 t p h l
piece_proper v3 t (newer Second p) h l = tt
piece_proper v3 t (newer Third p) h l = tt
piece_proper b t (rule q) h l = rule_proper b t q h l

proper : (tokens : List Lexeme) (pieces : List Piece) → AreTokens tokens → ArePieces IsPiece tokens pieces → AreProper v1 pieces
proper [] [] h l = tt
proper [] (p ∷ ps) h l = absurd l
proper (t ∷ ts) [] h l = absurd l
proper (t ∷ ts) (p ∷ ps) h l = (piece_proper v1 t p h.0 l.0, proper ts ps h.1 l.1)

tree_proper : (text : List ℕ) (tree : Tree) → Accepts Tree IsSentence (answers_of text) tree → AreProper v1 (tree_pieces tree)
tree_proper text tree a = proper a.0 (tree_pieces tree) (tokens_are (reads text) a.0 a.1) a.2.pieces

-- ---- the law

proper_back : (tree : Tree) → IsWellFormed tree → AreProper v1 (tree_pieces tree) → PrintsBack tree
proper_back tree ok h =
    let led : Leads v1 (printed tree) (tree_pieces tree) = printed_leads tree ok h in
    let back : AgainTree tree (led.tokens 0) = tree_back tree (led.tokens 0) ok.0 (plain_like (led.tokens 0) (tree_pieces tree) (led.like 0)) in
    record {
      again = back.again;
      parses = (led.tokens 0, led.answers 0, record { pieces = back.pieces; well_formed = back.kept ok });
      same = back.same;
    }
  where
    plain_like : (tokens : List Lexeme) (pieces : List Piece) → AreLike (map (seen_at v1) tokens) pieces → AreLike tokens pieces
    plain_like [] [] l = tt
    plain_like [] (p ∷ ps) l = absurd l
    plain_like (t ∷ ts) [] l = absurd l
    plain_like (t ∷ ts) (p ∷ ps) l = (l.0, plain_like ts ps l.1)

pub prints_back : (text : List ℕ) (tree : Tree) → Accepts Tree IsSentence (answers_of text) tree → PrintsBack tree
prints_back text tree a = proper_back tree a.2.well_formed (tree_proper text tree a)

-- ---- as a text of version 2

-- a tree with the number of its version written out
abbrev as_version : Tree → ℕ → Tree
as_version tree n = record { facts = record tree.facts { version = n }; statements = tree.statements }

-- the version of a tree as one of version 2 at the least
abbrev at_least_second : ℕ → ℕ
at_least_second n = if n == 1 then 2 else n

-- a tree of a version after the first is as it is
newer_as_is : (tree : Tree) (n : ℕ) → at_least_second n ≡ n → tree.facts.version ≡ n → tree ≡ upgraded tree
newer_as_is tree n same is = ap (as_version tree) (is ∙ sym same ∙ ap at_least_second (sym is))

-- a tree of version 1 as one of version 2
second_back : (text : List ℕ) (tree : Tree) → Accepts Tree IsSentence (answers_of text) tree → IsFree tree → tree.facts.version ≡ 1 → PrintsBack (as_version tree 2)
second_back text tree a free first =
    let q = tree.facts in
    let more : List Piece = flat_map statement_pieces tree.statements in
    let h : AreProper v1 (shared_pieces q (last_pieces more))
    = (subst (λ n. AreProper v1 (tree_pieces (as_version tree n))) first (tree_proper text tree a)).1.1.1 in
    proper_back (as_version tree 2) (inr (inl refl), a.2.well_formed.1) (
      tt,
      (
        tt,
        (
          tt,
          (
            tt,
            (
              tt,
              (
                tt,
                (
                  tt,
                  second_proper (shared_pieces q (recovery_pieces q.eager more))
                      (upgraded_head q more free.0 (statements_upgraded tree.statements free.1) h),
                ),
              ),
            ),
          ),
        ),
      ),
    )

pub upgrades_back : (text : List ℕ) (tree : Tree) → Accepts Tree IsSentence (answers_of text) tree → IsFree tree → PrintsBack (upgraded tree)
upgrades_back text tree a free = by a.2.well_formed.0
  where
    by : IsHead tree.facts → PrintsBack (upgraded tree)
    by (inl first) =
        subst PrintsBack (ap (as_version tree) (sym (ap at_least_second first.0))) (second_back text tree a free first.0)
    by (inr (inl second)) = subst PrintsBack (newer_as_is tree 2 refl second) (prints_back text tree a)
    by (inr (inr third)) = subst PrintsBack (newer_as_is tree 3 refl third) (prints_back text tree a)
