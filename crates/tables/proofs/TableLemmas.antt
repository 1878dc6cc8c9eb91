-- Why a table isn't shown, from why it isn't restored.
use Rattle.std.proofs.Common.{ℕ, Option, List, refl}
use Rattle.databases.specs.Restored.{Files}
use Rattle.databases.specs.Restored.{IsLost as IsUnrestored}
use Rattle.databases.specs.declared.fault.RestoreFault.{RestoreFault}
use Rattle.databases.specs.declared.fault.RestoreFault.TheVariants as restore
use Rattle.manifest.specs.Manifest.{Table as Entry}
use Rattle.manifest.specs.declared.entries.ManifestHead.{ManifestHead}
use Rattle.tables.specs.Meant.{IsMeant}
use Rattle.tables.specs.Recovery.{IsLost, refusal_of}

pub lost-unrestored : (text : List ℕ) (name : Option (List ℕ)) (files : Files) (head : ManifestHead) (t : Entry) (fault : RestoreFault)
    → IsMeant text name head t → IsUnrestored head t files fault → IsLost text name files (refusal_of fault)
lost-unrestored text name files head t restore.OtherStore meant h = (head, t, meant, h)
lost-unrestored text name files head t restore.BadManifest meant h = (head, t, meant, h)
lost-unrestored text name files head t restore.DamagedHeader meant h = (head, t, meant, h)
lost-unrestored text name files head t (restore.DamagedColumn col) meant h = (head, t, meant, h)
lost-unrestored text name files head t (restore.Header fault) meant h = (head, t, meant, h)
lost-unrestored text name files head t (restore.Columns fault) meant h = (head, t, meant, h)
lost-unrestored text name files head t (restore.Commits fault) meant h = (head, t, meant, h)
lost-unrestored text name files head t restore.NoMemory meant h = refl
