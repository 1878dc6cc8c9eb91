-- What is read after a crash.
use Rattle.std.proofs.Common.{◌≡◌, ◌≤◌, ◌<◌, ◌^◌, ℕ, suc, ◌+◌, ◌-◌, Option, Result, Ok, Err, IsErr, List, [], ◌∷◌, ◌++◌, length, take, drop, refl, sym, ap, subst, ◌∙◌, append_assoc, inl, inr, arith}
use Rattle.std.proofs.lemmas.Bool.{cases_lt}
use Rattle.std.proofs.lemmas.List.{append-nil, length-append, length-take, take-append-drop, take-take}
use Rattle.std.proofs.Math.Seq.{take-append-add}
use Rattle.disk.specs.Disk.{Disk, File, Left, MayLeave, named}
use Rattle.disk.proofs.DiskLemmas.{left_durable}
use Rattle.journal.specs.Crash.{IsLeft}
use Rattle.journal.specs.Frame.{Logged, journal_bytes}
use Rattle.journal.specs.Header.{HeaderFields, IsHeader, header_bytes, header_in, seed_of}
use Rattle.journal.specs.Laws.{AHeaderReadsBack, AJournalSurvives}
use Rattle.journal.specs.declared.fault.HeaderFault.{HeaderFault}
use Rattle.journal_steps.specs.Laws.{IsNoChance, IsNoHeaderByChance, ReadsAfterACrash, Survives, frames_left}
use Rattle.journal_steps.specs.Progress.{header_from}
use Rattle.journal_steps.specs.World.{Withdraw, AllBeside, Beside, IsBesideBy, World, Segment, Event, Add, Want, Begin, Done, Fail, Remove, Stop, all_logged, frames_behind, frames_in, happens, joined, journal_name, run, stripped, stripped_then}
use Rattle.journal_steps.specs.Sound.{AreClosed, Holds, IsNoneOrEmpty, file_bytes}
use Rattle.journal_steps.proofs.BeginLemmas.{holds_begin}
use Rattle.journal_steps.proofs.BesideLemmas.{holds_beside}
use Rattle.journal_steps.proofs.ChainLemmas.{journal-append, logged_of_numbered}
use Rattle.journal_steps.proofs.DoneLemmas.{holds_done}
use Rattle.journal_steps.proofs.DueLemmas.{true_false}
use Rattle.journal_steps.proofs.FailLemmas.{holds_fail}
use Rattle.journal_steps.proofs.FileLemmas.{length-header}
use Rattle.journal_steps.proofs.WishLemmas.{holds_add, holds_remove, holds_stop, holds_want, holds_withdraw}

-- ---- whatever happens

pub holds_happens : (w : World) (e : Event) → IsBesideBy w e → Holds w → Holds (happens w e)
holds_happens w (Add payload) b h = holds_add w payload h
holds_happens w Withdraw b h = holds_withdraw w h
holds_happens w Stop b h = holds_stop w h
holds_happens w Want b h = holds_want w h
holds_happens w (Begin l) b h = holds_begin l w h
holds_happens w (Done l) b h = holds_done l w h
holds_happens w (Fail l taken) b h = holds_fail l taken w h
holds_happens w Remove b h = holds_remove w h
holds_happens w (Beside disk) b h = holds_beside w disk b h

pub holds_run : (es : List Event) (w : World) → AllBeside es w → Holds w → Holds (run es w)
holds_run [] w b h = h
holds_run (e ∷ es) w b h = holds_run es (happens w e) b.1 (holds_happens w e b.0 h)

-- ---- one file

-- behind a header its frames are read
pub stripped_header : (h : HeaderFields) (rest : List ℕ) → AHeaderReadsBack → IsHeader h → stripped (header_bytes h ++ rest) ≡ rest
stripped_header h rest law is = ap (frames_behind (header_bytes h ++ rest)) (law h rest is)

stripped_empty : stripped [] ≡ []
unfolding header_in
stripped_empty = refl

-- no bytes have no frames
pub stripped_nil : (bytes : List ℕ) → length bytes ≡ 0 → stripped bytes ≡ []
stripped_nil [] e = stripped_empty
stripped_nil (b ∷ bytes) e = absurd (omega (arith, e))

without_header : (bytes : List ℕ) (r : Result (HeaderFields × List ℕ) HeaderFault) → IsErr r → frames_behind bytes r ≡ bytes
without_header bytes (Ok found) e = absurd (true_false (sym e))
without_header bytes (Err fault) e = refl

-- a file whose bytes are all durable
pub closed_file : (salt store base : ℕ) (logged : List Logged) → AHeaderReadsBack → IsHeader (header_from salt store base)
    → stripped (file_bytes salt store base logged) ≡ journal_bytes (seed_of salt) logged
closed_file salt store base [] law is = stripped_nil [] refl
closed_file salt store base (l ∷ ls) law is = stripped_header (header_from salt store base) (journal_bytes (seed_of salt) (l ∷ ls)) law is

-- the frames of the file that is written: a beginning of them with at least the durable bytes, and others
pub record LastLeft (seed : ℕ) (logged : List Logged) (durable : ℕ) (bytes : List ℕ) : Type 0 where
  pub size : ℕ
  pub other : List ℕ
  pub kept : durable - 36 ≤ size
  pub spelt : stripped bytes ≡ take size (journal_bytes seed logged) ++ other

-- the header is whole in what is left
with_header : (h : HeaderFields) (frames bytes other : List ℕ) (size : ℕ) → AHeaderReadsBack → IsHeader h
    → bytes ≡ take size (header_bytes h ++ frames) ++ other → 36 ≤ size
    → stripped bytes ≡ take (size - 36) frames ++ other
with_header h frames bytes other size law is spelt le =
    let head = header_bytes h in
    let size_is : size ≡ length head + (size - 36) = omega (arith, le, length-header h) in
    let front : take size (head ++ frames) ≡ head ++ take (size - 36) frames =
    ap (λ n. take n (head ++ frames)) size_is ∙ take-append-add head frames (size - 36) in
    let whole : bytes ≡ head ++ (take (size - 36) frames ++ other) =
    spelt ∙ ap (λ (b : List ℕ). b ++ other) front ∙ append_assoc head (take (size - 36) frames) other in
    ap stripped whole ∙ stripped_header h (take (size - 36) frames ++ other) law is

short_header : (h : HeaderFields) (seed : ℕ) (logged : List Logged) (bytes : List ℕ) (durable size : ℕ) → AHeaderReadsBack → IsHeader h
    → durable ≤ size → size < 36 → IsNoHeaderByChance h bytes → LastLeft seed logged durable bytes
short_header h seed logged bytes durable size law is kept lt (inl front) =
    record {
      size = 0;
      other = drop 36 bytes;
      kept = omega (arith, kept, lt);
      spelt =
          ap stripped (sym (take-append-drop 36 bytes) ∙ ap (λ (b : List ℕ). b ++ drop 36 bytes) front)
          ∙ stripped_header h (drop 36 bytes) law is;
    }
short_header h seed logged bytes durable size law is kept lt (inr err) =
    record { size = 0; other = bytes; kept = omega (arith, kept, lt); spelt = without_header bytes (header_in bytes) err }

pub last_left : (salt store base part : ℕ) (logged : List Logged) (f : File) (bytes : List ℕ) → AHeaderReadsBack
    → IsHeader (header_from salt store base) → f.bytes ≡ take part (file_bytes salt store base logged) → f.durable ≤ length f.bytes
    → Left f bytes → IsNoHeaderByChance (header_from salt store base) bytes → LastLeft (seed_of salt) logged f.durable bytes
last_left salt store base part [] f bytes law is spelt few l chance =
    let none : length f.bytes ≡ 0 = omega (arith, ap length spelt, length-take part (file_bytes salt store base [])) in
    record {
      size = 0;
      other = [];
      kept = omega (arith, few, none);
      spelt = stripped_nil bytes (omega (arith, none, l.no_longer));
    }
last_left salt store base part (x ∷ xs) f bytes law is spelt few l chance =
    let h = header_from salt store base in
    let all = file_bytes salt store base (x ∷ xs) in
    let frames = journal_bytes (seed_of salt) (x ∷ xs) in
    let low : l.size ≤ part = omega (arith, l.within, ap length spelt, length-take part all) in
    let cut : take l.size f.bytes ≡ take l.size all = ap (take l.size) spelt ∙ take-take l.size part all low in
    let whole : bytes ≡ take l.size all ++ l.other = l.spelt ∙ ap (λ (b : List ℕ). b ++ l.other) cut in
    elim (cases_lt l.size 36) [
      | inl lt ↦ short_header h (seed_of salt) (x ∷ xs) bytes f.durable l.size law is l.kept lt chance
      | inr past ↦
          record {
            size = l.size - 36;
            other = l.other;
            kept = omega (arith, l.kept);
            spelt = with_header h frames bytes l.other l.size law is whole (omega (arith, past));
          }
    ]

-- ---- the files in turn

is_header : (salt store base low : ℕ) → IsHeader (header_from salt store base) → low ≤ base → IsHeader (header_from salt store low)
is_header salt store base low is le = record { salt = is.salt; store = is.store; base = omega (arith, is.base, le); seed = is.seed }

pub joined_closed : (d c : Disk) (salt store bound seq base last most : ℕ) (ss : List Segment) → AHeaderReadsBack
    → IsHeader (header_from salt store last) → base + length (frames_in ss) ≤ last → MayLeave d c → AreClosed d salt store bound seq base ss
    → joined c seq (length ss + most) ≡ journal_bytes (seed_of salt) (frames_in ss) ++ joined c (seq + length ss) most
joined_closed d c salt store bound seq base last most [] law is le left h =
    ap (joined c seq) (let e : 0 + most ≡ most = omega arith in e) ∙ ap (λ n. joined c n most) (let e : seq ≡ seq + 0 = omega arith in e)
joined_closed d c salt store bound seq base last most (s ∷ ss) law is le left h =
    let seed = seed_of salt in
    let rest = joined c (seq + 1) (length ss + most) in
    let long = length-append s.logged (frames_in ss) in
    let here : stripped (c.files s.file).bytes ≡ journal_bytes seed s.logged =
    ap stripped (left_durable (d.files s.file) (c.files s.file).bytes h.2 (left.files s.file) ∙ h.1)
    ∙ closed_file salt store base s.logged law (is_header salt store last base is (omega (arith, le))) in
    ap (joined c seq) (let e : suc (length ss) + most ≡ suc (length ss + most) = omega arith in e)
    ∙ ap (λ (x : Option ℕ). stripped_then c x rest) (h.3 (named (journal_name seq) c.links) (left.names (journal_name seq)))
    ∙ ap (λ (b : List ℕ). b ++ rest) here
    ∙ ap (λ (b : List ℕ). journal_bytes seed s.logged ++ b)
    (joined_closed d c salt store bound (seq + 1) (base + length s.logged) last most ss law is (omega (arith, le, long)) left h.4)
    ∙ sym (append_assoc (journal_bytes seed s.logged) (journal_bytes seed (frames_in ss)) (joined c ((seq + 1) + length ss) most))
    ∙ ap (λ (b : List ℕ). b ++ joined c ((seq + 1) + length ss) most) (sym (journal-append seed s.logged (frames_in ss)))
    ∙ ap (λ n. journal_bytes seed (s.logged ++ frames_in ss) ++ joined c n most)
    (let e : (seq + 1) + length ss ≡ seq + suc (length ss) = omega arith in e)

-- the next file has no bytes, and there is none after it
next_nothing : (d c : Disk) (file : ℕ) (x : Option ℕ) (rest : List ℕ) → MayLeave d c → IsNoneOrEmpty d file x → rest ≡ []
    → stripped_then c x rest ≡ []
next_nothing d c file x rest left (inl none) e = ap (λ (y : Option ℕ). stripped_then c y rest) none
next_nothing d c file x rest left (inr some) e =
    let i = some.0 in
    let gone : (c.files i).bytes ≡ (d.files i).bytes =
    left_durable (d.files i) (c.files i).bytes (subst (λ (f : File). f.durable ≡ length f.bytes) (sym some.2.empty) refl) (left.files i) in
    ap (λ (y : Option ℕ). stripped_then c y rest) some.1
    ∙ ap (λ (b : List ℕ). b ++ rest) (stripped_nil (c.files i).bytes (ap length (gone ∙ ap (λ (f : File). f.bytes) some.2.empty)))
    ∙ e

joined_all : (w : World) (c : Disk) (more : ℕ) → AHeaderReadsBack → Holds w → MayLeave w.disk c
    → frames_left w c more ≡ journal_bytes (seed_of w.progress.salt) (frames_in w.closed) ++ stripped (c.files w.file).bytes
joined_all w c more law h left =
    let p = w.progress in
    let k = h.core in
    let before = journal_bytes (seed_of p.salt) (frames_in w.closed) in
    let third = journal_name ((p.seq + 1) + 1) in
    let last : joined c ((p.seq + 1) + 1) (suc more) ≡ [] =
    ap (λ (x : Option ℕ). stripped_then c x (joined c (((p.seq + 1) + 1) + 1) more))
    (k.beyond ((p.seq + 1) + 1) (named third c.links) (omega arith) (left.names third)) in
    let next : joined c (p.seq + 1) (suc (suc more)) ≡ [] =
    next_nothing w.disk c w.file (named (journal_name (p.seq + 1)) c.links) (joined c ((p.seq + 1) + 1) (suc more)) left
    (k.next (named (journal_name (p.seq + 1)) c.links) (left.names (journal_name (p.seq + 1)))) last in
    joined_closed w.disk c p.salt p.store w.file p.first w.before p.base (suc (suc (suc more))) w.closed law h.ready.header
    (omega (arith, k.base_is)) left k.are_closed
    ∙ ap (λ n. before ++ joined c n (suc (suc (suc more)))) (sym k.seq_is)
    ∙ ap (λ (x : Option ℕ). before ++ stripped_then c x (joined c (p.seq + 1) (suc (suc more))))
    (k.name (named (journal_name p.seq) c.links) (left.names (journal_name p.seq)))
    ∙ ap (λ (b : List ℕ). before ++ (stripped (c.files w.file).bytes ++ b)) next
    ∙ ap (λ (b : List ℕ). before ++ b) (append-nil (stripped (c.files w.file).bytes))

survives : (w : World) (c : Disk) (more : ℕ) → AHeaderReadsBack → Holds w → MayLeave w.disk c
    → IsNoHeaderByChance (header_from w.progress.salt w.progress.store w.progress.base) (c.files w.file).bytes
    → Survives (seed_of w.progress.salt) (w.before + 1) (all_logged w) (w.progress.durable - w.before) (frames_left w c more)
survives w c more law h left chance =
    let p = w.progress in
    let k = h.core in
    let seed = seed_of p.salt in
    let closed = frames_in w.closed in
    let before = journal_bytes seed closed in
    let here = journal_bytes seed w.logged in
    let f = w.disk.files w.file in
    let l : LastLeft seed w.logged f.durable (c.files w.file).bytes =
    last_left p.salt p.store p.base k.part w.logged f (c.files w.file).bytes law h.ready.header k.bytes k.no_more
    (left.files w.file) chance in
    let parts : journal_bytes seed (all_logged w) ≡ before ++ here = journal-append seed closed w.logged in
    let n = p.durable - p.base in
    let count : p.durable - w.before ≡ length closed + n = omega (arith, k.base_is, k.base_durable) in
    let front : take (p.durable - w.before) (all_logged w) ≡ closed ++ take n w.logged =
    ap (λ m. take m (all_logged w)) count ∙ take-append-add closed w.logged n in
    let long : length (journal_bytes seed (take (p.durable - w.before) (all_logged w)))
    ≡ length before + length (journal_bytes seed (take n w.logged)) =
    ap (λ (ls : List Logged). length (journal_bytes seed ls)) front ∙ ap length (journal-append seed closed (take n w.logged))
    ∙ length-append before (journal_bytes seed (take n w.logged)) in
    record {
      few = omega (arith, k.durable_taken, k.taken_is);
      size = length before + l.size;
      other = l.other;
      kept = omega (arith, long, k.kept, l.kept);
      spelt =
          joined_all w c more law h left
          ∙ ap (λ (b : List ℕ). before ++ b) l.spelt
          ∙ sym (append_assoc before (take l.size here) l.other)
          ∙ ap (λ (b : List ℕ). b ++ l.other) (sym (take-append-add before here l.size) ∙ ap (take (length before + l.size)) (sym parts));
    }

left_of : (seed next : ℕ) (logged : List Logged) (durable : ℕ) (bytes : List ℕ) → (s : Survives seed next logged durable bytes)
    → IsNoChance seed next logged s.size s.other bytes → IsLeft seed next logged durable bytes
left_of seed next logged durable bytes s chance =
    record { few = s.few; size = s.size; other = s.other; kept = s.kept; spelt = s.spelt; torn = chance.torn; silent = chance.silent }

pub reads_after : (w : World) (c : Disk) (more : ℕ) → AJournalSurvives → AHeaderReadsBack → Holds w
    → MayLeave w.disk c → IsNoHeaderByChance (header_from w.progress.salt w.progress.store w.progress.base) (c.files w.file).bytes
    → ReadsAfterACrash w c more
reads_after w c more frames header h left chance =
    let seed = seed_of w.progress.salt in
    let durable = w.progress.durable - w.before in
    let bytes = frames_left w c more in
    let few : (w.before + 1) + length (all_logged w) ≤ 2 ^ 63 = omega (arith, h.ready.numbers, h.core.taken_is) in
    let logged = logged_of_numbered (w.before + 1) w.progress.durable (all_logged w) few h.core.numbered in
    let p = w.progress in
    let first = header_from p.salt p.store w.before in
    let is_first : IsHeader first = is_header p.salt p.store p.base w.before h.ready.header (omega (arith, h.core.base_is)) in
    let v = survives w c more header h left chance in (
      logged,
      h.core.taken_is,
      (let le : w.before ≤ w.progress.durable = omega (arith, h.core.base_is, h.core.base_durable) in le),
      (
        v,
        λ lucky.
            let is_left = left_of seed (w.before + 1) (all_logged w) durable bytes v lucky in
            (is_left, (frames first (all_logged w) durable bytes is_first few logged is_left).1),
      ),
    )
