-- The limits, each by its number: what a clause cites by name is this.
use Rattle.std.proofs.Common.{◌≡◌, refl}
use Rattle.values.specs.declared.limits.TheConstants.{MAX_COLUMNS, MAX_KEY_COLUMNS, MAX_TEXT_BYTES, MAX_ROWS, MAX_RECENT_COMMITS, MAX_CLIENTS, MAX_BLOCK_VALUES, MAX_GENERATION, MAX_NAME_BYTES, MAX_CLIENT_BYTES}

columns : MAX_COLUMNS ≡ 32
columns = refl

key_columns : MAX_KEY_COLUMNS ≡ 4
key_columns = refl

text_bytes : MAX_TEXT_BYTES ≡ 4096
text_bytes = refl

rows : MAX_ROWS ≡ 2147483647
rows = refl

recent_commits : MAX_RECENT_COMMITS ≡ 65536
recent_commits = refl

clients : MAX_CLIENTS ≡ 64
clients = refl

block_values : MAX_BLOCK_VALUES ≡ 1024
block_values = refl

generation : MAX_GENERATION ≡ 4294967295
generation = refl

name_bytes : MAX_NAME_BYTES ≡ 64
name_bytes = refl

client_bytes : MAX_CLIENT_BYTES ≡ 32
client_bytes = refl
