-- The numbers of document 01, each under a name of its own.
use Rattle.std.specs.Prelude.{ℕ}

-- "Label 1 is text. Labels 2 to 200 are declared as element or attribute. 201 is a filler element, 202 a filler attribute, 203 the root"
abbrev pub text_label : ℕ
text_label = 1

abbrev pub first_declared : ℕ
first_declared = 2

abbrev pub last_declared : ℕ
last_declared = 200

abbrev pub filler_element : ℕ
filler_element = 201

abbrev pub filler_attribute : ℕ
filler_attribute = 202

abbrev pub root_label : ℕ
root_label = 203

-- The kinds of record, and the classes of a label record
abbrev pub label_kind : ℕ
label_kind = 1

abbrev pub key_kind : ℕ
key_kind = 2

abbrev pub node_kind : ℕ
node_kind = 3

abbrev pub line_kind : ℕ
line_kind = 4

-- "Node records get a four-byte value as kind 5"
abbrev pub wide_kind : ℕ
wide_kind = 5

-- "A profile of edition 2 begins with a record of kind 6, one byte, 2"
abbrev pub edition_kind : ℕ
edition_kind = 6

abbrev pub second_edition : ℕ
second_edition = 2

abbrev pub element_class : ℕ
element_class = 1

abbrev pub attribute_class : ℕ
attribute_class = 2

-- "the root is node 0 with parent 65535"; "an unused premise field is 65535"
abbrev pub no_number : ℕ
no_number = 65535

-- "Every record: length of the whole record (two bytes, little-endian), kind (two bytes), body"; node fields before the value, line fields before a key body
abbrev pub head_bytes : ℕ
head_bytes = 4

abbrev pub node_fields : ℕ
node_fields = 3

abbrev pub line_fields : ℕ
line_fields = 5

abbrev pub longest_name : ℕ
longest_name = 32

-- "Sizes: profile 16,384 bytes and 64 keys; tree 4,096 nodes (36,864 bytes); proof 65,536 bytes and 256 lines"
abbrev pub profile_bytes : ℕ
profile_bytes = 16384

abbrev pub profile_keys : ℕ
profile_keys = 64

abbrev pub tree_nodes : ℕ
tree_nodes = 4096

abbrev pub tree_bytes : ℕ
tree_bytes = 36864

-- "The limit of a tree whose record 0 is kind 5 is 45,056 bytes, still 4,096 nodes."
abbrev pub wide_tree_bytes : ℕ
wide_tree_bytes = 45056

abbrev pub proof_bytes : ℕ
proof_bytes = 65536

abbrev pub proof_lines : ℕ
proof_lines = 256

-- "it is under 65,536 bytes"; "Block k is lines 1,024k to 1,024k + 1,023"
abbrev pub answer_bytes : ℕ
answer_bytes = 65536

abbrev pub block_lines : ℕ
block_lines = 1024

-- "Inclusion takes a profile and two bare paths (up to 32 symbols)"
abbrev pub bare_path : ℕ
bare_path = 32

-- "a path of 8 symbols and 4 key paths in profile and question. In a proof line, C and T may have 32 symbols, and there may be 64 key paths of 16."
pub record KeyLimits : Type 0 where
  pub symbols : ℕ
  pub path_symbols : ℕ
  pub paths : ℕ

abbrev pub in_profile : KeyLimits
in_profile = record { symbols = 8; path_symbols = 8; paths = 4 }

abbrev pub in_proof : KeyLimits
in_proof = record { symbols = 32; path_symbols = 16; paths = 64 }
