-- The trees of the standard interfaces, each name at place 0.
use Rattle.std.specs.Prelude.{ℕ, List, [], ◌∷◌, None, Some, codes, false}
use Rattle.sg_shape.specs.sg_check_statements.sg_parse.declared.tree.Facts.{Facts}
use Rattle.sg_shape.specs.sg_check_statements.sg_parse.declared.tree.Param.{Param}
use Rattle.sg_shape.specs.sg_check_statements.sg_parse.declared.tree.Ret.{Ret}
use Rattle.sg_shape.specs.sg_check_statements.sg_parse.declared.tree.Ret.TheVariants.{Plain, Set, Add, Sub}
use Rattle.sg_shape.specs.sg_check_statements.sg_parse.declared.tree.Statement.{Statement}
use Rattle.sg_shape.specs.sg_check_statements.sg_parse.declared.tree.Statement.TheVariants.{One, Two, Proto}
use Rattle.sg_shape.specs.sg_check_statements.sg_parse.declared.tree.Tree.{Tree}
use Rattle.sg_shape.specs.sg_check_statements.sg_parse.declared.tree.TypeName.{TypeName}
use Rattle.sg_shape.specs.sg_check_statements.sg_parse.sg_lex.Lexeme.{Spelling}

-- ---- parts of trees

-- a name at place 0
abbrev pub named : List ℕ → Spelling
named bytes = record { bytes = bytes; at = 0 }

-- a type of one name
abbrev typed : List ℕ → TypeName
typed bytes = record { names = named bytes ∷ []; stars = 0 }

-- the types that stand in the texts
abbrev int : TypeName
int = typed (codes "int")

abbrev long : TypeName
long = typed (codes "long")

abbrev unsigned : TypeName
unsigned = record { names = named (codes "unsigned") ∷ named (codes "long") ∷ []; stars = 0 }

abbrev client : TypeName
client = typed (codes "spdid_t")

abbrev chars : TypeName
chars = record { names = named (codes "char") ∷ []; stars = 1 }

-- a parameter without a form; with one
abbrev plain : TypeName → List ℕ → Param
plain ty name = record { ty = ty; form = None; name = named name }

abbrev with : List ℕ → TypeName → List ℕ → Param
with form ty name = record { ty = ty; form = Some (named form); name = named name }

-- a word over one function; over two, or over a function and a field; a prototype
abbrev one : List ℕ → List ℕ → Statement
one word fun = One (named word) (named fun)

abbrev two : List ℕ → List ℕ → List ℕ → Statement
two word first second = Two (named word) (named first) (named second)

abbrev proto : Ret → List ℕ → List Param → Statement
proto ret name params = Proto ret (named name) params

-- ---- lock

abbrev pub lock_tree : Tree
lock_tree = record {
  facts = record {
    version = 1;
    service = named (codes "lock");
    parent = named (codes "none");
    close = named (codes "refuse");
    global = named (codes "true");
    block = named (codes "true");
    has_data = named (codes "true");
    resc_data = named (codes "false");
    eager = false;
  };
  statements =
      one (codes "sm_creation") (codes "lock_alloc")
      ∷ one (codes "sm_terminal") (codes "lock_free")
      ∷ one (codes "sm_block") (codes "lock_take")
      ∷ one (codes "sm_wakeup") (codes "lock_release")
      ∷ two (codes "sm_state") (codes "lock_release") (codes "lock_alloc")
      ∷ two (codes "sm_transition") (codes "lock_alloc") (codes "lock_take")
      ∷ two (codes "sm_transition") (codes "lock_alloc") (codes "lock_free")
      ∷ two (codes "sm_transition") (codes "lock_take") (codes "lock_take")
      ∷ two (codes "sm_transition") (codes "lock_take") (codes "lock_release")
      ∷ two (codes "sm_transition") (codes "lock_take") (codes "lock_free")
      ∷ two (codes "sm_recover") (codes "lock_alloc") (codes "lock_take")
      ∷ proto (Plain unsigned) (codes "lock_alloc") (plain client (codes "spdid") ∷ [])
      ∷ proto (Plain int) (codes "lock_take") (with (codes "desc_data") client (codes "owner") ∷ with (codes "desc") unsigned (codes "id") ∷ [])
      ∷ proto (Plain int) (codes "lock_release") (plain client (codes "spdid") ∷ with (codes "desc") unsigned (codes "id") ∷ [])
      ∷ two (codes "desc_data_clear") (codes "lock_release") (codes "owner")
      ∷ proto (Plain int) (codes "lock_free") (plain client (codes "spdid") ∷ with (codes "desc") unsigned (codes "id") ∷ [])
      ∷ [];
}

-- ---- event

abbrev pub event_tree : Tree
event_tree = record {
  facts = record {
    version = 2;
    service = named (codes "event");
    parent = named (codes "none");
    close = named (codes "refuse");
    global = named (codes "true");
    block = named (codes "true");
    has_data = named (codes "true");
    resc_data = named (codes "false");
    eager = false;
  };
  statements =
      one (codes "sm_creation") (codes "evt_split")
      ∷ one (codes "sm_terminal") (codes "evt_free")
      ∷ one (codes "sm_block") (codes "evt_wait")
      ∷ one (codes "sm_wakeup") (codes "evt_trigger")
      ∷ one (codes "sm_keep") (codes "evt_wait")
      ∷ one (codes "sm_keep") (codes "evt_trigger")
      ∷ two (codes "sm_transition") (codes "evt_split") (codes "evt_wait")
      ∷ two (codes "sm_transition") (codes "evt_split") (codes "evt_trigger")
      ∷ two (codes "sm_transition") (codes "evt_split") (codes "evt_free")
      ∷ two (codes "sm_recover") (codes "evt_split") (codes "evt_trigger")
      ∷ proto (Plain unsigned) (codes "evt_split") (plain client (codes "spdid") ∷ [])
      ∷ proto (Plain int) (codes "evt_wait") (plain client (codes "spdid") ∷ with (codes "desc") unsigned (codes "id") ∷ [])
      ∷ two (codes "desc_data_sub") (codes "evt_wait") (codes "count")
      ∷ proto (Plain int) (codes "evt_trigger") (plain client (codes "spdid") ∷ with (codes "desc") unsigned (codes "id") ∷ with (codes "desc_data_add") unsigned (codes "count") ∷ [])
      ∷ proto (Plain int) (codes "evt_free") (plain client (codes "spdid") ∷ with (codes "desc") unsigned (codes "id") ∷ [])
      ∷ one (codes "sm_keep") (codes "evt_take")
      ∷ two (codes "sm_transition") (codes "evt_split") (codes "evt_take")
      ∷ proto (Sub long (named (codes "count"))) (codes "evt_take") (plain client (codes "spdid") ∷ with (codes "desc") unsigned (codes "id") ∷ plain unsigned (codes "n") ∷ [])
      ∷ [];
}

-- ---- mm

abbrev pub mm_tree : Tree
mm_tree = record {
  facts = record {
    version = 1;
    service = named (codes "mm");
    parent = named (codes "cross");
    close = named (codes "subtree");
    global = named (codes "true");
    block = named (codes "false");
    has_data = named (codes "true");
    resc_data = named (codes "false");
    eager = false;
  };
  statements =
      one (codes "sm_creation") (codes "mman_get_page")
      ∷ one (codes "sm_creation") (codes "mman_alias_page")
      ∷ one (codes "sm_terminal") (codes "mman_release_page")
      ∷ one (codes "sm_query") (codes "mman_find")
      ∷ one (codes "sm_needs_all") (codes "mman_get_page")
      ∷ one (codes "sm_needs_all") (codes "mman_alias_page")
      ∷ one (codes "sm_needs_all") (codes "mman_find")
      ∷ two (codes "sm_transition") (codes "mman_get_page") (codes "mman_release_page")
      ∷ two (codes "sm_transition") (codes "mman_alias_page") (codes "mman_release_page")
      ∷ proto (Plain unsigned) (codes "mman_get_page") (with (codes "desc_data") client (codes "space") ∷ with (codes "desc_data") unsigned (codes "addr") ∷ [])
      ∷ proto (Plain unsigned) (codes "mman_alias_page") (plain client (codes "spdid") ∷ with (codes "parent_desc") unsigned (codes "parent") ∷ with (codes "desc_data") unsigned (codes "space") ∷ with (codes "desc_data") unsigned (codes "addr") ∷ [])
      ∷ proto (Plain int) (codes "mman_release_page") (plain client (codes "spdid") ∷ with (codes "desc") unsigned (codes "id") ∷ [])
      ∷ proto (Plain unsigned) (codes "mman_find") (plain client (codes "spdid") ∷ plain unsigned (codes "space") ∷ plain unsigned (codes "addr") ∷ [])
      ∷ [];
}

-- ---- ramfs

abbrev pub ramfs_tree : Tree
ramfs_tree = record {
  facts = record {
    version = 1;
    service = named (codes "ramfs");
    parent = named (codes "same");
    close = named (codes "refuse");
    global = named (codes "false");
    block = named (codes "false");
    has_data = named (codes "true");
    resc_data = named (codes "true");
    eager = false;
  };
  statements =
      one (codes "sm_creation") (codes "tsplit")
      ∷ one (codes "sm_terminal") (codes "trelease")
      ∷ one (codes "sm_keep") (codes "tread")
      ∷ one (codes "sm_keep") (codes "twrite")
      ∷ one (codes "sm_keep") (codes "tseek")
      ∷ one (codes "resc_data") (codes "tread")
      ∷ one (codes "resc_data") (codes "twrite")
      ∷ two (codes "sm_transition") (codes "tsplit") (codes "tread")
      ∷ two (codes "sm_transition") (codes "tsplit") (codes "twrite")
      ∷ two (codes "sm_transition") (codes "tsplit") (codes "tseek")
      ∷ two (codes "sm_transition") (codes "tsplit") (codes "trelease")
      ∷ two (codes "sm_recover") (codes "tsplit") (codes "tseek")
      ∷ proto (Plain unsigned) (codes "tsplit") (plain client (codes "spdid") ∷ with (codes "parent_desc") unsigned (codes "parent") ∷ with (codes "desc_data") chars (codes "name") ∷ [])
      ∷ proto (Add long (named (codes "offset"))) (codes "tread") (plain client (codes "spdid") ∷ with (codes "desc") unsigned (codes "td") ∷ plain unsigned (codes "n") ∷ [])
      ∷ proto (Add long (named (codes "offset"))) (codes "twrite") (plain client (codes "spdid") ∷ with (codes "desc") unsigned (codes "td") ∷ plain chars (codes "bytes") ∷ [])
      ∷ proto (Plain int) (codes "tseek") (plain client (codes "spdid") ∷ with (codes "desc") unsigned (codes "td") ∷ with (codes "desc_data") unsigned (codes "offset") ∷ [])
      ∷ proto (Plain int) (codes "trelease") (plain client (codes "spdid") ∷ with (codes "desc") unsigned (codes "td") ∷ [])
      ∷ [];
}

-- ---- sched

abbrev pub sched_tree : Tree
sched_tree = record {
  facts = record {
    version = 1;
    service = named (codes "sched");
    parent = named (codes "none");
    close = named (codes "refuse");
    global = named (codes "true");
    block = named (codes "true");
    has_data = named (codes "true");
    resc_data = named (codes "false");
    eager = false;
  };
  statements =
      one (codes "sm_creation") (codes "sched_create_thd")
      ∷ one (codes "sm_terminal") (codes "sched_exit")
      ∷ one (codes "sm_block") (codes "sched_wait")
      ∷ one (codes "sm_wakeup") (codes "sched_wakeup")
      ∷ one (codes "sm_query") (codes "sched_next")
      ∷ one (codes "sm_needs_all") (codes "sched_create_thd")
      ∷ one (codes "sm_needs_all") (codes "sched_yield")
      ∷ one (codes "sm_needs_all") (codes "sched_next")
      ∷ one (codes "sm_keep") (codes "sched_yield")
      ∷ one (codes "sm_keep") (codes "sched_wait")
      ∷ one (codes "sm_keep") (codes "sched_place")
      ∷ two (codes "sm_state") (codes "sched_wakeup") (codes "sched_create_thd")
      ∷ two (codes "sm_transition") (codes "sched_create_thd") (codes "sched_yield")
      ∷ two (codes "sm_transition") (codes "sched_create_thd") (codes "sched_sleep")
      ∷ two (codes "sm_transition") (codes "sched_create_thd") (codes "sched_wait")
      ∷ two (codes "sm_transition") (codes "sched_create_thd") (codes "sched_exit")
      ∷ two (codes "sm_transition") (codes "sched_sleep") (codes "sched_wait")
      ∷ two (codes "sm_transition") (codes "sched_sleep") (codes "sched_wakeup")
      ∷ two (codes "sm_transition") (codes "sched_sleep") (codes "sched_exit")
      ∷ two (codes "sm_recover") (codes "sched_create_thd") (codes "sched_place")
      ∷ two (codes "sm_recover") (codes "sched_create_thd") (codes "sched_sleep")
      ∷ proto (Set long (named (codes "rank"))) (codes "sched_create_thd") (plain client (codes "spdid") ∷ with (codes "desc_data") unsigned (codes "prio") ∷ [])
      ∷ proto (Set long (named (codes "rank"))) (codes "sched_yield") (plain client (codes "spdid") ∷ with (codes "desc") unsigned (codes "tid") ∷ [])
      ∷ proto (Plain int) (codes "sched_sleep") (plain client (codes "spdid") ∷ with (codes "desc") unsigned (codes "tid") ∷ [])
      ∷ proto (Plain int) (codes "sched_wakeup") (plain client (codes "spdid") ∷ with (codes "desc") unsigned (codes "tid") ∷ [])
      ∷ proto (Plain int) (codes "sched_wait") (plain client (codes "spdid") ∷ with (codes "desc") unsigned (codes "tid") ∷ [])
      ∷ proto (Plain int) (codes "sched_next") (plain client (codes "spdid") ∷ [])
      ∷ proto (Plain int) (codes "sched_place") (plain client (codes "spdid") ∷ with (codes "desc") unsigned (codes "tid") ∷ with (codes "desc_data") unsigned (codes "rank") ∷ [])
      ∷ proto (Plain int) (codes "sched_exit") (plain client (codes "spdid") ∷ with (codes "desc") unsigned (codes "tid") ∷ [])
      ∷ [];
}

-- ---- timer

abbrev pub timer_tree : Tree
timer_tree = record {
  facts = record {
    version = 2;
    service = named (codes "timer");
    parent = named (codes "none");
    close = named (codes "refuse");
    global = named (codes "true");
    block = named (codes "true");
    has_data = named (codes "true");
    resc_data = named (codes "false");
    eager = false;
  };
  statements =
      one (codes "sm_creation") (codes "tmr_create")
      ∷ one (codes "sm_terminal") (codes "tmr_free")
      ∷ one (codes "sm_block") (codes "tmr_wait")
      ∷ one (codes "sm_wakeup") (codes "tmr_tick")
      ∷ one (codes "sm_query") (codes "tmr_first")
      ∷ one (codes "sm_needs_all") (codes "tmr_create")
      ∷ one (codes "sm_needs_all") (codes "tmr_first")
      ∷ one (codes "sm_keep") (codes "tmr_tick")
      ∷ one (codes "sm_keep") (codes "tmr_wait")
      ∷ one (codes "sm_keep") (codes "tmr_place")
      ∷ one (codes "sm_keep") (codes "tmr_skip")
      ∷ two (codes "sm_transition") (codes "tmr_create") (codes "tmr_tick")
      ∷ two (codes "sm_transition") (codes "tmr_create") (codes "tmr_wait")
      ∷ two (codes "sm_transition") (codes "tmr_create") (codes "tmr_skip")
      ∷ two (codes "sm_transition") (codes "tmr_create") (codes "tmr_free")
      ∷ two (codes "sm_recover") (codes "tmr_create") (codes "tmr_tick")
      ∷ two (codes "sm_recover") (codes "tmr_create") (codes "tmr_place")
      ∷ proto (Set long (named (codes "due"))) (codes "tmr_create") (with (codes "desc_data") client (codes "owner") ∷ with (codes "desc_data") unsigned (codes "period") ∷ with (codes "desc_data") unsigned (codes "tag") ∷ [])
      ∷ proto (Plain int) (codes "tmr_tick") (plain client (codes "spdid") ∷ with (codes "desc") unsigned (codes "id") ∷ with (codes "desc_data_add") unsigned (codes "now") ∷ [])
      ∷ proto (Add long (named (codes "due"))) (codes "tmr_wait") (plain client (codes "spdid") ∷ with (codes "desc") unsigned (codes "id") ∷ [])
      ∷ proto (Plain int) (codes "tmr_place") (plain client (codes "spdid") ∷ with (codes "desc") unsigned (codes "id") ∷ with (codes "desc_data") unsigned (codes "due") ∷ [])
      ∷ proto (Plain int) (codes "tmr_first") (plain client (codes "spdid") ∷ [])
      ∷ proto (Add long (named (codes "due"))) (codes "tmr_skip") (plain client (codes "spdid") ∷ with (codes "desc") unsigned (codes "id") ∷ [])
      ∷ proto (Plain int) (codes "tmr_free") (plain client (codes "spdid") ∷ with (codes "desc") unsigned (codes "id") ∷ [])
      ∷ [];
}
