-- The pieces of a script, one after the other.
use Rattle.std.proofs.Common.{◌≡◌, List, [], ◌∷◌, ◌++◌, map, refl, ap, ◌∙◌, append_assoc}
use Rattle.std.specs.Prelude.{None, Some, codes}
use Rattle.std.specs.declared.option.Option.{Option}
use Rattle.std.specs.List.{flat_map}
use Rattle.sg_script_parse.specs.declared.tree.WrittenArg.{WrittenArg}
use Rattle.sg_script_parse.specs.declared.tree.WrittenCall.{WrittenCall}
use Rattle.sg_script_parse.specs.declared.tree.Part.{Part}
use Rattle.sg_script_parse.specs.declared.tree.Part.TheVariants.{Setup, Client, Schedule, Stop}
use Rattle.sg_lex.specs.Lexeme.{Spelling}
use Rattle.sg_script_parse.specs.Grammar.Pieces.{ScriptPiece, mark}
use Rattle.sg_script_parse.specs.Grammar.Inside.Pieces.{fixed, word, number}
use Rattle.sg_script_parse.specs.Grammar.Sentence.{arg_pieces, call_pieces, part_pieces}
use Rattle.sg_script_parse.specs.Grammar.Inside.Forms.{args_pieces}
use Rattle.sg_lex.specs.Inside.Marks.{close_bracket_byte, comma_byte, close_brace_byte, open_bracket_byte, semicolon_byte, open_brace_byte}

-- ---- with what follows them

-- further arguments up to the closing bracket
abbrev pub listed_then : List WrittenArg → List ScriptPiece → List ScriptPiece
listed_then [] r = mark (close_bracket_byte ∷ []) ∷ r
listed_then (a ∷ more) r = mark (comma_byte ∷ []) ∷ (arg_pieces a ++ listed_then more r)

abbrev pub args_then : List WrittenArg → List ScriptPiece → List ScriptPiece
args_then [] r = mark (close_bracket_byte ∷ []) ∷ r
args_then (a ∷ more) r = arg_pieces a ++ listed_then more r

-- calls up to the closing brace
abbrev pub calls_then : List WrittenCall → List ScriptPiece → List ScriptPiece
calls_then [] r = mark (close_brace_byte ∷ []) ∷ r
calls_then (c ∷ more) r = word c.name ∷ mark (open_bracket_byte ∷ []) ∷ args_then c.args (mark (semicolon_byte ∷ []) ∷ calls_then more r)

-- numbers up to the semicolon
abbrev pub numbers_then : List Spelling → List ScriptPiece → List ScriptPiece
numbers_then [] r = mark (semicolon_byte ∷ []) ∷ r
numbers_then (n ∷ more) r = number n ∷ numbers_then more r

-- the name of a service, where there is one
abbrev pub named_then : Option Spelling → List ScriptPiece → List ScriptPiece
named_then None r = r
named_then (Some s) r = word s ∷ r

abbrev pub part_then : Part → List ScriptPiece → List ScriptPiece
part_then (Setup at calls) r = fixed (codes "setup") at ∷ mark (open_brace_byte ∷ []) ∷ calls_then calls r
part_then (Client at n calls) r = fixed (codes "client") at ∷ number n ∷ mark (open_brace_byte ∷ []) ∷ calls_then calls r
part_then (Schedule at numbers) r = fixed (codes "schedule") at ∷ numbers_then numbers r
part_then (Stop at service numbers) r = fixed (codes "stop") at ∷ named_then service (numbers_then numbers r)

abbrev pub parts_then : List Part → List ScriptPiece → List ScriptPiece
parts_then [] r = r
parts_then (p ∷ more) r = part_then p (parts_then more r)

-- ---- these are the pieces

listed_is : (more : List WrittenArg) (r : List ScriptPiece) → flat_map (λ a. mark (comma_byte ∷ []) ∷ arg_pieces a) more ++ mark (close_bracket_byte ∷ []) ∷ r ≡ listed_then more r
listed_is [] r = refl
listed_is (a ∷ more) r =
    ap (λ v. mark (comma_byte ∷ []) ∷ v) (append_assoc (arg_pieces a) (flat_map (λ a. mark (comma_byte ∷ []) ∷ arg_pieces a) more) (mark (close_bracket_byte ∷ []) ∷ r)
    ∙ ap (λ v. arg_pieces a ++ v) (listed_is more r))

args_is : (args : List WrittenArg) (r : List ScriptPiece) → args_pieces args ++ mark (close_bracket_byte ∷ []) ∷ r ≡ args_then args r
args_is [] r = refl
args_is (a ∷ more) r =
    append_assoc (arg_pieces a) (flat_map (λ a. mark (comma_byte ∷ []) ∷ arg_pieces a) more) (mark (close_bracket_byte ∷ []) ∷ r)
    ∙ ap (λ v. arg_pieces a ++ v) (listed_is more r)

calls_is : (calls : List WrittenCall) (r : List ScriptPiece) → flat_map call_pieces calls ++ mark (close_brace_byte ∷ []) ∷ r ≡ calls_then calls r
calls_is [] r = refl
calls_is (c ∷ more) r =
    append_assoc (call_pieces c) (flat_map call_pieces more) (mark (close_brace_byte ∷ []) ∷ r)
    ∙ ap (λ v. call_pieces c ++ v) (calls_is more r)
    ∙ ap (λ v. word c.name ∷ mark (open_bracket_byte ∷ []) ∷ v) (append_assoc (args_pieces c.args) (mark (close_bracket_byte ∷ []) ∷ mark (semicolon_byte ∷ []) ∷ []) (calls_then more r)
    ∙ args_is c.args (mark (semicolon_byte ∷ []) ∷ calls_then more r))

numbers_is : (numbers : List Spelling) (r : List ScriptPiece) → map number numbers ++ mark (semicolon_byte ∷ []) ∷ r ≡ numbers_then numbers r
numbers_is [] r = refl
numbers_is (n ∷ more) r = ap (λ v. number n ∷ v) (numbers_is more r)

part_is : (p : Part) (r : List ScriptPiece) → part_pieces p ++ r ≡ part_then p r
part_is (Setup at calls) r =
    ap (λ v. fixed (codes "setup") at ∷ mark (open_brace_byte ∷ []) ∷ v)
    (append_assoc (flat_map call_pieces calls) (mark (close_brace_byte ∷ []) ∷ []) r ∙ calls_is calls r)
part_is (Client at n calls) r =
    ap (λ v. fixed (codes "client") at ∷ number n ∷ mark (open_brace_byte ∷ []) ∷ v)
    (append_assoc (flat_map call_pieces calls) (mark (close_brace_byte ∷ []) ∷ []) r ∙ calls_is calls r)
part_is (Schedule at numbers) r =
    ap (λ v. fixed (codes "schedule") at ∷ v) (append_assoc (map number numbers) (mark (semicolon_byte ∷ []) ∷ []) r ∙ numbers_is numbers r)
part_is (Stop at None numbers) r =
    ap (λ v. fixed (codes "stop") at ∷ v) (append_assoc (map number numbers) (mark (semicolon_byte ∷ []) ∷ []) r ∙ numbers_is numbers r)
part_is (Stop at (Some s) numbers) r =
    ap (λ v. fixed (codes "stop") at ∷ word s ∷ v) (append_assoc (map number numbers) (mark (semicolon_byte ∷ []) ∷ []) r ∙ numbers_is numbers r)

pub parts_are : (parts : List Part) → flat_map part_pieces parts ≡ parts_then parts []
parts_are [] = refl
parts_are (p ∷ more) = part_is p (flat_map part_pieces more) ∙ ap (part_then p) (parts_are more)

-- one part more
pub parts_snoc : (parts : List Part) (p : Part) (r : List ScriptPiece) → parts_then (parts ++ p ∷ []) r ≡ parts_then parts (part_then p r)
parts_snoc [] p r = refl
parts_snoc (q ∷ more) p r = ap (part_then q) (parts_snoc more p r)
