-- The board agrees with the wiki but for its departures: Agrees163 and Agrees210 have the theorems, Cases computed instances. Below them:
-- laws of each subject, a board beside the machine (Stands, Stands210), and lists of calls.
pub mod Tests
pub mod Ranges
pub mod Registers
pub mod Counter
pub mod Channel
pub mod Port
pub mod Sound
pub mod Notes
pub mod Shown
pub mod Stands
pub mod Stands210
pub mod Lists
pub mod Agrees163
pub mod Agrees210
pub mod Protection
pub mod Cases
