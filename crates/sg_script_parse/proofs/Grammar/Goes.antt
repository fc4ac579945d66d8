-- Tokens that are the pieces of a script lead from the state before them to the state after them.
use Rattle.std.proofs.Common.{◌≡◌, ℕ, Bool, true, false, List, [], ◌∷◌, ◌++◌, refl, sym, ap, subst, append_assoc}
use Rattle.std.specs.Prelude.{None, Some, ◌&&◌, codes}
use Rattle.std.specs.declared.option.Option.{Option}
use Rattle.std.specs.List.{list_all}
use Rattle.std.proofs.lemmas.List.{append-nil}
use Rattle.sg_lex.specs.Lexeme.{Lexeme, Spelling}
use Rattle.sg_lex.proofs.Automata.{Runs}
use Rattle.sg_script_parse.specs.declared.tree.WrittenArg.{WrittenArg}
use Rattle.sg_script_parse.specs.declared.tree.WrittenArg.TheVariants.{Number as number_arg, Text as text_arg, Back as back_arg}
use Rattle.sg_script_parse.specs.declared.tree.WrittenCall.{WrittenCall}
use Rattle.sg_script_parse.specs.declared.tree.Part.{Part}
use Rattle.sg_script_parse.specs.declared.tree.Part.TheVariants.{Setup, Client, Schedule, Stop}
use Rattle.sg_script_parse.specs.Grammar.Pieces.{ScriptPiece, mark, IsScriptPiece}
use Rattle.sg_script_parse.specs.Grammar.Inside.Pieces.{fixed, word, number, quoted}
use Rattle.sg_lex.specs.Sentences.{ArePieces}
use Rattle.sg_script_parse.specs.Grammar.Sentence.{arg_pieces, is_named_for}
use Rattle.sg_script_parse.specs.Grammar.Inside.States.{ScriptState, due, want, want_word, argument, bracketed, listed, body, counts, script, with_part, call_rest, braced, setup_rest, client_rest, schedule_rest, stop_rest, named, step, scripts}
use Rattle.sg_script_parse.proofs.Grammar.Basics.{made, is_made, if_then, bytes_same, both_left, both_right}
use Rattle.sg_script_parse.proofs.Grammar.Thens.{listed_then, args_then, calls_then, numbers_then, named_then, part_then, parts_then}
use Rattle.sg_lex.specs.Inside.Marks.{dollar_byte, close_bracket_byte, comma_byte, close_brace_byte, semicolon_byte, open_bracket_byte, open_brace_byte}

-- reading tokens that are these pieces leads from the one state to the other
abbrev pub Goes : ScriptState → List ScriptPiece → ScriptState → Type 0
Goes s ps end = (tokens : List Lexeme) → ArePieces IsScriptPiece tokens ps → Runs scripts s tokens end

-- one piece, and then others
one : (s mid end : ScriptState) (p : ScriptPiece) (ps : List ScriptPiece) → ((place : ℕ) → step s (made p place) ≡ Some mid) → Goes mid ps end → Goes s (p ∷ ps) end
one s mid end p ps h g [] a = absurd a
one s mid end p ps h g (t ∷ ts) a = (mid, subst (λ v. step s v ≡ Some mid) (sym (is_made t p a.0)) (h t.at), g ts a.1)

due_goes : (byte : ℕ) (s end : ScriptState) (ps : List ScriptPiece) → Goes s ps end → Goes (due byte s) (mark (byte ∷ []) ∷ ps) end
unfolding step
due_goes byte s end ps g =
    one (due byte s) s end (mark (byte ∷ [])) ps (λ place. if_then _ (Some s) None (bytes_same (byte ∷ []))) g

want_goes : (k : Spelling → ScriptState) (n : Spelling) (end : ScriptState) (ps : List ScriptPiece) → Goes (k n) ps end → Goes (want k) (number n ∷ ps) end
unfolding step
want_goes k n end ps g = one (want k) (k n) end (number n) ps (λ place. refl) g

word_goes : (k : Spelling → ScriptState) (s : Spelling) (end : ScriptState) (ps : List ScriptPiece) → Goes (k s) ps end → Goes (want_word k) (word s ∷ ps) end
unfolding step
word_goes k s end ps g = one (want_word k) (k s) end (word s) ps (λ place. refl) g

argument_goes : (k : WrittenArg → ScriptState) (a : WrittenArg) (end : ScriptState) (ps : List ScriptPiece) → Goes (k a) ps end → Goes (argument k) (arg_pieces a ++ ps) end
unfolding step
argument_goes k (number_arg n) end ps g = one (argument k) (k (number_arg n)) end (number n) ps (λ place. refl) g
argument_goes k (text_arg t) end ps g = one (argument k) (k (text_arg t)) end (quoted t) ps (λ place. refl) g
argument_goes k (back_arg n) end ps g =
    one (argument k) (want (λ m. k (back_arg m))) end (mark (dollar_byte ∷ [])) (number n ∷ ps) (λ place. refl) (want_goes (λ m. k (back_arg m)) n end ps g)

listed_goes : (more args : List WrittenArg) (k : List WrittenArg → ScriptState) (end : ScriptState) (ps : List ScriptPiece) → Goes (k (args ++ more)) ps end
    → Goes (listed args k) (listed_then more ps) end
unfolding step
listed_goes [] args k end ps g =
    one (listed args k) (k args) end (mark (close_bracket_byte ∷ [])) ps (λ place. refl) (subst (λ v. Goes (k v) ps end) (append-nil args) g)
listed_goes (a ∷ more) args k end ps g =
    one (listed args k) (argument (λ b. listed (args ++ b ∷ []) k)) end (mark (comma_byte ∷ [])) (arg_pieces a ++ listed_then more ps) (λ place. refl)
    (argument_goes (λ b. listed (args ++ b ∷ []) k) a end (listed_then more ps)
    (listed_goes more (args ++ a ∷ []) k end ps (subst (λ v. Goes (k v) ps end) (sym (append_assoc args (a ∷ []) more)) g)))

bracketed_goes : (args : List WrittenArg) (k : List WrittenArg → ScriptState) (end : ScriptState) (ps : List ScriptPiece) → Goes (k args) ps end
    → Goes (bracketed k) (args_then args ps) end
unfolding step
bracketed_goes [] k end ps g = one (bracketed k) (k []) end (mark (close_bracket_byte ∷ [])) ps (λ place. refl) g
bracketed_goes (number_arg n ∷ more) k end ps g =
    one (bracketed k) (listed (number_arg n ∷ []) k) end (number n) (listed_then more ps) (λ place. refl)
    (listed_goes more (number_arg n ∷ []) k end ps g)
bracketed_goes (text_arg t ∷ more) k end ps g =
    one (bracketed k) (listed (text_arg t ∷ []) k) end (quoted t) (listed_then more ps) (λ place. refl)
    (listed_goes more (text_arg t ∷ []) k end ps g)
bracketed_goes (back_arg n ∷ more) k end ps g =
    one (bracketed k) (want (λ m. listed (back_arg m ∷ []) k)) end (mark (dollar_byte ∷ [])) (number n ∷ listed_then more ps) (λ place. refl)
    (want_goes (λ m. listed (back_arg m ∷ []) k) n end (listed_then more ps) (listed_goes more (back_arg n ∷ []) k end ps g))

body_goes : (more calls : List WrittenCall) (k : List WrittenCall → ScriptState) (end : ScriptState) (ps : List ScriptPiece) → Goes (k (calls ++ more)) ps end
    → Goes (body calls k) (calls_then more ps) end
unfolding step
body_goes [] calls k end ps g =
    one (body calls k) (k calls) end (mark (close_brace_byte ∷ [])) ps (λ place. refl) (subst (λ v. Goes (k v) ps end) (append-nil calls) g)
body_goes (c ∷ more) calls k end ps g =
    let go : WrittenCall → ScriptState = λ d. body (calls ++ d ∷ []) k in
    let tail = λ (args : List WrittenArg). due semicolon_byte (go (record { name = c.name; args = args })) in
    one (body calls k) (call_rest go c.name) end (word c.name) (mark (open_bracket_byte ∷ []) ∷ args_then c.args (mark (semicolon_byte ∷ []) ∷ calls_then more ps)) (λ place. refl)
    (due_goes open_bracket_byte (bracketed tail) end (args_then c.args (mark (semicolon_byte ∷ []) ∷ calls_then more ps))
    (bracketed_goes c.args tail end (mark (semicolon_byte ∷ []) ∷ calls_then more ps)
    (due_goes semicolon_byte (go c) end (calls_then more ps)
    (body_goes more (calls ++ c ∷ []) k end ps (subst (λ v. Goes (k v) ps end) (sym (append_assoc calls (c ∷ []) more)) g)))))

braced_goes : (calls : List WrittenCall) (k : List WrittenCall → ScriptState) (end : ScriptState) (ps : List ScriptPiece) → Goes (k calls) ps end
    → Goes (braced k) (mark (open_brace_byte ∷ []) ∷ calls_then calls ps) end
braced_goes calls k end ps g = due_goes open_brace_byte (body [] k) end (calls_then calls ps) (body_goes calls [] k end ps g)

counts_goes : (more numbers : List Spelling) (k : List Spelling → ScriptState) (end : ScriptState) (ps : List ScriptPiece) → Goes (k (numbers ++ more)) ps end
    → Goes (counts numbers k) (numbers_then more ps) end
unfolding step
counts_goes [] numbers k end ps g =
    one (counts numbers k) (k numbers) end (mark (semicolon_byte ∷ [])) ps (λ place. refl) (subst (λ v. Goes (k v) ps end) (append-nil numbers) g)
counts_goes (n ∷ more) numbers k end ps g =
    one (counts numbers k) (counts (numbers ++ n ∷ []) k) end (number n) (numbers_then more ps) (λ place. refl)
    (counts_goes more (numbers ++ n ∷ []) k end ps (subst (λ v. Goes (k v) ps end) (sym (append_assoc numbers (n ∷ []) more)) g))

-- a service is named exactly in a script for several
named_goes : (several : Bool) (k : Option Spelling → ScriptState) (service : Option Spelling) (at : ℕ) (numbers : List Spelling) (end : ScriptState) (ps : List ScriptPiece)
    → is_named_for several (Stop at service numbers) ≡ true → Goes (k service) ps end → Goes (named several k) (named_then service ps) end
named_goes false k None at numbers end ps is g = g
named_goes false k (Some s) at numbers end ps is g = absurd (let e : false ≡ true = is in cc)
named_goes true k None at numbers end ps is g = absurd (let e : false ≡ true = is in cc)
named_goes true k (Some s) at numbers end ps is g = word_goes (λ v. k (Some v)) s end ps g

part_goes : (several : Bool) (p : Part) (parts : List Part) (end : ScriptState) (ps : List ScriptPiece) → is_named_for several p ≡ true → Goes (with_part several parts p) ps end
    → Goes (script several parts) (part_then p ps) end
unfolding step
part_goes several (Setup at calls) parts end ps is g =
    one (script several parts) (setup_rest (with_part several parts) at) end (fixed (codes "setup") at) (mark (open_brace_byte ∷ []) ∷ calls_then calls ps) (λ place. refl)
    (braced_goes calls (λ v. with_part several parts (Setup at v)) end ps g)
part_goes several (Client at n calls) parts end ps is g =
    one (script several parts) (client_rest (with_part several parts) at) end (fixed (codes "client") at) (number n ∷ mark (open_brace_byte ∷ []) ∷ calls_then calls ps) (λ place. refl)
    (want_goes (λ m. braced (λ v. with_part several parts (Client at m v))) n end (mark (open_brace_byte ∷ []) ∷ calls_then calls ps)
    (braced_goes calls (λ v. with_part several parts (Client at n v)) end ps g))
part_goes several (Schedule at numbers) parts end ps is g =
    one (script several parts) (schedule_rest (with_part several parts) at) end (fixed (codes "schedule") at) (numbers_then numbers ps) (λ place. refl)
    (counts_goes numbers [] (λ v. with_part several parts (Schedule at v)) end ps g)
part_goes several (Stop at service numbers) parts end ps is g =
    one (script several parts) (stop_rest several (with_part several parts) at) end (fixed (codes "stop") at) (named_then service (numbers_then numbers ps)) (λ place. refl)
    (named_goes several (λ s. counts [] (λ v. with_part several parts (Stop at s v))) service at numbers end (numbers_then numbers ps) is
    (counts_goes numbers [] (λ v. with_part several parts (Stop at service v)) end ps g))

-- whole parts, from parts on
pub parts_go : (several : Bool) (more parts : List Part) → list_all (is_named_for several) more ≡ true → Goes (script several parts) (parts_then more []) (script several (parts ++ more))
parts_go several [] parts are [] a = ap (script several) (sym (append-nil parts))
parts_go several [] parts are (t ∷ ts) a = absurd a
parts_go several (p ∷ more) parts are tokens a =
    part_goes several p parts (script several (parts ++ p ∷ more)) (parts_then more []) (both_left (is_named_for several p) _ are)
    (subst (λ v. Goes (script several (parts ++ p ∷ [])) (parts_then more []) (script several v)) (append_assoc parts (p ∷ []) more)
    (parts_go several more (parts ++ p ∷ []) (both_right (is_named_for several p) _ are)))
    tokens a
